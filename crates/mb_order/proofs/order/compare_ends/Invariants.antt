use Rattle.std.proofs.Common.{length, reverse, take, ◌≡◌, ◌≤◌}
use Rattle.std.specs.Cmp.Lexicographic.{slice_cmp}
use Rattle.std.specs.Ordering.{nat_cmp}
use Rattle.mb_order.proofs.order.compare_ends.Given as goal

abbrev pub invariant-loop-k : goal.invariant-loop-k
invariant-loop-k l = record {
  within : l.k ≤ length l.a;
  left_over : slice_cmp nat_cmp (reverse l.b) (reverse l.a)
      ≡ slice_cmp nat_cmp (reverse (take l.k l.b)) (reverse (take l.k l.a));
}

abbrev pub decreases-loop-k : goal.decreases-loop-k
decreases-loop-k l = l.k
