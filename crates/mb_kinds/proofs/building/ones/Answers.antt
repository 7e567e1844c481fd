use Rattle.std.proofs.Common.{ap, arith, rules, sym, ◌++◌, ◌∙◌, ◌∷◌, [], ◌≡◌}
use Rattle.std.proofs.lemmas.List.FromFn.{map-range_with_len_more}
use Rattle.mb_kinds.proofs.building.ones.Goals as goal

pub loop-preserved : goal.loop-preserved
loop-preserved c =
    let pushed : c.push.new.self.items ≡ c.loop.base.items ++ 1 ∷ [] = search rules in
    pushed ∙ ap (λ list. list ++ 1 ∷ []) c.loop.invariant
    ∙ sym (map-range_with_len_more (λ k. 1) 0 c.loop.counter c.loop.counter (omega arith))
