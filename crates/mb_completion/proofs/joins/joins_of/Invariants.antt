use Rattle.mb_completion.proofs.joins.joins_of.Given as goal
use Rattle.mb_completion.specs.loops.Making.{AreJoining}

abbrev pub invariant-loop-j : goal.invariant-loop-j
invariant-loop-j l = AreJoining l.rules.rules 0 l.j l.joins.items
