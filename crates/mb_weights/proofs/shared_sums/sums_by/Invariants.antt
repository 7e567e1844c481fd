use Rattle.std.proofs.Common.{Some, length}
use Rattle.mb_weights.proofs.shared_sums.sums_by.Given as goal
use Rattle.mb_weights.specs.loops.Parts.{AreSumsOf, shares_before}

abbrev pub invariant-loop-part : goal.invariant-loop-part
invariant-loop-part g l =
    AreSumsOf l.measure l.most (shares_before l.rings l.part-index (length l.part-items))
    (Some l.sums)
