use Rattle.std.proofs.Common.{List, map, rules, subst, sym, ◌≡◌, ℕ}
use Rattle.mb_kinds.specs.Generators.{factors_named}
use Rattle.mb_kinds.specs.Kinds.{pairs_of}
use Rattle.mb_kinds.specs.loops.Placed.{ArePlaced}
use Rattle.mb_kinds.proofs.Placing.{all_placed}
use Rattle.mb_kinds.proofs.rasch.rasch_model.Goals as goal

pub margins_model-requires-clause-placed : goal.margins_model-requires-clause-placed
margins_model-requires-clause-placed c =
    let pairs = pairs_of c.args.person.now c.args.item.now c.args.response.now in
    let is : c.as_slice-2.result.now ≡ map (factors_named c.args.dataset.now.factors)
    pairs = search rules in
    subst (λ (list : List (List ℕ)). ArePlaced c.args.dataset.now list) (sym is)
    (all_placed c.args.dataset.now pairs)
