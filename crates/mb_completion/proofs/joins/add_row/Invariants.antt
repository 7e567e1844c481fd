use Rattle.mb_completion.proofs.joins.add_row.Given as goal
use Rattle.mb_completion.specs.loops.Making.{AreJoining}

abbrev pub invariant-loop-i : goal.invariant-loop-i
invariant-loop-i l = AreJoining l.rules.rules l.i l.j l.joins.items
