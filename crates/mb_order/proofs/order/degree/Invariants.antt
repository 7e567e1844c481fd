use Rattle.std.proofs.Common.{sum, take, ◌*◌, ◌≡◌, ◌≤◌}
use Rattle.mb_order.proofs.order.degree.Given as goal

abbrev pub invariant-loop-exponent : goal.invariant-loop-exponent
invariant-loop-exponent l = record {
  so_far : l.sum ≡ sum (take l.exponent-index l.exponents);
  small : l.sum ≤ 65535 * l.exponent-index;
}
