use Rattle.mb_checker.proofs.joins.check_joins.Given as goal
use Rattle.mb_checker.specs.loops.Joined.{AreMet}
use Rattle.mb_order.specs.Weight.{Suits}

abbrev pub invariant-loop-high : goal.invariant-loop-high
invariant-loop-high l = record {
  met : AreMet l.certificate 0 l.high l.next;
  p_shape : Suits l.certificate.matrix l.p;
  q_shape : Suits l.certificate.matrix l.q;
}
