use Rattle.mb_checker.proofs.joins.check_row.Given as goal
use Rattle.mb_checker.specs.loops.Joined.{AreMet}
use Rattle.mb_order.specs.Weight.{Suits}

abbrev pub invariant-loop-low : goal.invariant-loop-low
invariant-loop-low l = record {
  met : AreMet l.certificate l.low l.high l.judged;
  p_shape : Suits l.certificate.matrix l.p;
  q_shape : Suits l.certificate.matrix l.q;
}
