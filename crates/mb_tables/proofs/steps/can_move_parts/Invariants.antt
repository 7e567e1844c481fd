use Rattle.mb_tables.specs.loops.Cell.{CanMoveParts}
use Rattle.mb_tables.proofs.steps.can_move_parts.Given as goal

abbrev pub invariant-loop-part : goal.invariant-loop-part
invariant-loop-part l = CanMoveParts l.sign l.counts l.parts l.from l.part
