use Rattle.std.proofs.Common.{map, rules, ◌++◌, ◌-◌, ◌∙◌, [], ◌≡◌}
use Rattle.std.specs.List.{range_with_len}
use Rattle.mb_kinds.proofs.RangeSteps.{pieces_more}
use Rattle.mb_kinds.proofs.hardy_weinberg.genotypes.Goals as goal

pub loop-class-preserved : goal.loop-class-preserved
loop-class-preserved c =
    let i = c.loop-class.class in
    let pushed : c.in_ok-pairs.pairs.items
    ≡ c.loop-class.pairs.items ++ map (λ j. (i, j))
    (range_with_len i (c.args.classes - i)) = search rules in
    pushed
    ∙ pieces_more (λ i. map (λ j. (i, j)) (range_with_len i (c.args.classes - i))) i []
    c.loop-class.pairs.items
    c.loop-class.invariant
