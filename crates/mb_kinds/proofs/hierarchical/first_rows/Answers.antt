use Rattle.std.proofs.Common.{ap, arith, rules, sym, ◌+◌, ◌++◌, ◌∙◌, ◌∷◌, [], ◌≡◌}
use Rattle.mb_kinds.proofs.RangeSteps.{range_more}
use Rattle.mb_kinds.proofs.hierarchical.first_rows.Goals as goal

pub loop-k-preserved : goal.loop-k-preserved
loop-k-preserved c =
    let k = c.loop-k.k in
    let pushed : c.push.new.self.items ≡ c.loop-k.numbers.items ++ (k + 1) ∷ [] = search rules in
    pushed ∙ ap (λ list. list ++ (k + 1) ∷ []) c.loop-k.invariant
    ∙ sym (range_more 1 k (k + 1) (omega arith))
