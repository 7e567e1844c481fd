use Rattle.std.proofs.Common.{◌*◌, ◌+◌}
use Rattle.mb_weights.proofs.pascal.fill_row.Given as goal
use Rattle.mb_weights.specs.loops.SmallWays.{AreWaysBelow, kept_ways}

abbrev pub invariant-loop-count : goal.invariant-loop-count
invariant-loop-count l = AreWaysBelow l.table (kept_ways * l.row + l.count)
