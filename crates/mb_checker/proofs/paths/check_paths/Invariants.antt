use Rattle.mb_checker.proofs.paths.check_paths.Given as goal
use Rattle.mb_checker.specs.loops.Taken.{ArePassed}

abbrev pub invariant-loop-k : goal.invariant-loop-k
invariant-loop-k l = ArePassed l.certificate l.k l.next
