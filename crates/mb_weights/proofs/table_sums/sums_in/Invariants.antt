use Rattle.std.proofs.Common.{Some, take}
use Rattle.mb_weights.proofs.table_sums.sums_in.Given as goal
use Rattle.mb_weights.specs.PValue.{tables_in}
use Rattle.mb_weights.specs.loops.Parts.{AreSumsOf}

abbrev pub invariant-loop-ring : goal.invariant-loop-ring
invariant-loop-ring l =
    AreSumsOf l.measure l.most (tables_in (take l.ring-index l.rings)) (Some l.sums)
