use Rattle.std.proofs.Common.{map, ◌++◌, ◌-◌, ◌≡◌, ◌≤◌}
use Rattle.std.specs.List.{range_with_len}
use Rattle.mb_kinds.proofs.hardy_weinberg.push_pairs.Given as goal

abbrev pub invariant-loop-other : goal.invariant-loop-other
invariant-loop-other l = record {
  past : l.class ≤ l.other;
  pairs : l.pairs.items ≡ l.fn.pairs.items ++ map (λ j. (l.class, j))
      (range_with_len l.class (l.other - l.class));
}
