use Rattle.std.proofs.Common.{◌*◌}
use Rattle.mb_weights.proofs.pascal.small_ways.Given as goal
use Rattle.mb_weights.specs.loops.SmallWays.{AreWaysBelow, kept_ways}

abbrev pub invariant-loop-row : goal.invariant-loop-row
invariant-loop-row l = AreWaysBelow l.table (kept_ways * l.row)
