use Rattle.mb_completion.proofs.reduction.keep_all.Given as goal
use Rattle.mb_completion.specs.loops.Keeping.{IsKeeping}

abbrev pub invariant-loop-k : goal.invariant-loop-k
invariant-loop-k l = IsKeeping l.rules.matrix l.rules.order l.rules.rules l.k l.kept.items
