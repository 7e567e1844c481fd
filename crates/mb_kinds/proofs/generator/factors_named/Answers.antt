use Rattle.std.proofs.Common.{Bool, List, false, rules, true, ◌++◌, ◌∙◌, ◌∷◌, [], ◌≡◌, ℕ, ap}
use Rattle.std.proofs.lemmas.Option.{get_or_from_slice_get}
use Rattle.std.specs.List.{slice_index_or}
use Rattle.mb_kinds.specs.Generators.{is_among}
use Rattle.mb_kinds.proofs.RangeSteps.{filter_fails, filter_passes}
use Rattle.mb_kinds.proofs.generator.factors_named.Goals.{else-has, then-has+in_ok-push}
use Rattle.mb_kinds.proofs.generator.factors_named.Goals as goal

pub loop-k-preserved : goal.loop-k-preserved
loop-k-preserved c =
    let k = c.loop-k.k in
    let test : ℕ → Bool = λ k. is_among c.args.names.now
    (slice_index_or c.args.dataset.now.factors k []) in
    let at = get_or_from_slice_get c.args.dataset.now.factors k c.factor.result.now []
    c.factor.ensures in
    elim c.if-has.branch [
      | then-has+in_ok-push w ↦
          let is : is_among c.args.names.now c.factor.result.now ≡ true = search rules in
          let passes : test k ≡ true = ap (λ (name : List ℕ). is_among c.args.names.now name) at
          ∙ is in
          let pushed : c.if-has.factors.items ≡ c.loop-k.factors.items ++ k ∷ [] = search rules in
          pushed ∙ filter_passes test k c.loop-k.factors.items c.loop-k.invariant passes
      | else-has w ↦
          let is : is_among c.args.names.now c.factor.result.now ≡ false = search rules in
          let fails : test k ≡ false = ap (λ (name : List ℕ). is_among c.args.names.now name) at
          ∙ is in
          let kept : c.if-has.factors.items ≡ c.loop-k.factors.items = search rules in
          kept ∙ filter_fails test k c.loop-k.factors.items c.loop-k.invariant fails
    ]
