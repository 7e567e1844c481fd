use Rattle.std.proofs.Common.{Some, take}
use Rattle.mb_weights.proofs.table_sums.sums_of.Given as goal
use Rattle.mb_weights.specs.loops.Parts.{AreSumsOf}

abbrev pub invariant-loop-table : goal.invariant-loop-table
invariant-loop-table l =
    AreSumsOf l.measure l.most (take l.table-index l.tables) (Some l.sums)
