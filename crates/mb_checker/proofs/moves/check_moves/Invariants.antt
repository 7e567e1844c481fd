use Rattle.mb_certificate.specs.FirstFault.{move_lines}
use Rattle.mb_checker.proofs.moves.check_moves.Given as goal
use Rattle.mb_checker.specs.loops.Lines.{AreRightBefore}

abbrev pub invariant-loop-k : goal.invariant-loop-k
invariant-loop-k l = AreRightBefore (move_lines l.certificate) l.k
