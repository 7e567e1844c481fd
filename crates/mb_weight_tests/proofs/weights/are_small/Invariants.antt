use Rattle.std.proofs.Common.{take}
use Rattle.mb_weight_tests.proofs.weights.are_small.Given as goal
use Rattle.mb_weights.specs.PValue.{AreSmall}

abbrev pub invariant-loop-ring : goal.invariant-loop-ring
invariant-loop-ring l = AreSmall (take l.ring-index l.rings)
