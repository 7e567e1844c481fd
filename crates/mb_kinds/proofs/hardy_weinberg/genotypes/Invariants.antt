use Rattle.std.proofs.Common.{map, ◌-◌, ◌≡◌}
use Rattle.std.specs.List.{flat_map, range_with_len}
use Rattle.mb_kinds.proofs.hardy_weinberg.genotypes.Given as goal

abbrev pub invariant-loop-class : goal.invariant-loop-class
invariant-loop-class l =
    l.pairs.items
    ≡ flat_map (λ i. map (λ j. (i, j)) (range_with_len i (l.classes - i)))
    (range_with_len 0 l.class)
