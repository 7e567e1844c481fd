use Rattle.std.proofs.Common.{length, ◌+◌, ◌-◌, ◌≡◌, ◌≤◌, ℕ}
use Rattle.std.specs.Int.{bit_at}
use Rattle.mb_order.proofs.exponents.put_right.Given as goal
use Rattle.mb_order.specs.Symbols.{IsSetOf}
use Rattle.mb_tables.specs.Vectors.{at}

abbrev pub invariant-loop-rest : goal.invariant-loop-rest
invariant-loop-rest l = record {
  part : (i : ℕ) → bit_at l.rest i ≤ bit_at l.set i;
  done : (i : ℕ) → bit_at l.rest i ≡ 0 →
      at l.exponents i ≡ at l.right i + (at l.initial.exponents i - at l.left i);
  left_over : (i : ℕ) → bit_at l.rest i ≡ 1 → at l.exponents i ≡ at l.initial.exponents i;
  long : length l.exponents ≡ length l.initial.exponents;
  occurring : IsSetOf l.now l.exponents;
}

abbrev pub decreases-loop-rest : goal.decreases-loop-rest
decreases-loop-rest l = l.rest
