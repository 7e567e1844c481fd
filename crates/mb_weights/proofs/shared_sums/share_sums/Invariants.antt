use Rattle.std.proofs.Common.{Some, take}
use Rattle.mb_weights.proofs.shared_sums.share_sums.Given as goal
use Rattle.mb_weights.specs.loops.Parts.{AreSumsOf, shares_in}

abbrev pub invariant-loop-ring : goal.invariant-loop-ring
invariant-loop-ring l =
    AreSumsOf l.measure l.most (shares_in (take l.ring-index l.rings) l.share l.count) (Some l.sums)
