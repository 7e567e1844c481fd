use Rattle.std.proofs.Common.{length, max, ℕ, ◌<◌, ◌≡◌, ◌≤◌}
use Rattle.mb_order.proofs.exponents.raise.Given as goal
use Rattle.mb_tables.specs.Vectors.{at}

abbrev pub invariant-loop-k : goal.invariant-loop-k
invariant-loop-k l = record {
  long : length l.exponents ≡ length l.initial.exponents;
  done : (i : ℕ) → i < l.k → at l.exponents i ≡ max (at l.initial.exponents i) (at l.others i);
  left_over : (i : ℕ) → l.k ≤ i → at l.exponents i ≡ at l.initial.exponents i;
}
