use Rattle.mb_certificate.specs.FirstFault.{start_lines}
use Rattle.mb_checker.proofs.starts.check_starts.Given as goal
use Rattle.mb_checker.specs.loops.Lines.{AreRightBefore}

abbrev pub invariant-loop-k : goal.invariant-loop-k
invariant-loop-k l = AreRightBefore (start_lines l.certificate) l.k
