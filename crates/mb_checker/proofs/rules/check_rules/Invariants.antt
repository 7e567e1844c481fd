use Rattle.mb_certificate.specs.FirstFault.{rule_lines}
use Rattle.mb_checker.proofs.rules.check_rules.Given as goal
use Rattle.mb_checker.specs.loops.Lines.{AreRightBefore}

abbrev pub invariant-loop-k : goal.invariant-loop-k
invariant-loop-k l = AreRightBefore (rule_lines l.certificate) l.k
