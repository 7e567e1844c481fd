use Rattle.std.proofs.Common.{◌≡◌, ◌≤◌, ℕ}
use Rattle.std.specs.Int.{bit_at}
use Rattle.mb_order.proofs.exponents.is_within.Given as goal
use Rattle.mb_tables.specs.Vectors.{at}

abbrev pub invariant-loop-rest : goal.invariant-loop-rest
invariant-loop-rest l = record {
  part : (i : ℕ) → bit_at l.rest i ≤ bit_at l.set i;
  done : (i : ℕ) → bit_at l.rest i ≡ 0 → at l.low i ≤ at l.high i;
}

abbrev pub decreases-loop-rest : goal.decreases-loop-rest
decreases-loop-rest l = l.rest
