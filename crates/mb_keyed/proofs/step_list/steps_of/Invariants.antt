use Rattle.mb_keyed.proofs.StepLists.{AreStepsTo}
use Rattle.mb_keyed.proofs.step_list.steps_of.Given as goal

abbrev pub invariant-loop-z : goal.invariant-loop-z
invariant-loop-z l =
    AreStepsTo l.keys l.moves.width l.z-items l.list.items l.needs.items l.z-index
