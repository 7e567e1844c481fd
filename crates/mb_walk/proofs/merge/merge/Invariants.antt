use Rattle.std.proofs.Common.{[], false, ◌≡◌}
use Rattle.mb_rings.specs.loops.Found.{FindsMore}
use Rattle.mb_walk.proofs.MergeSteps.{InPilesBelow}
use Rattle.mb_walk.proofs.merge.merge.Given as goal

abbrev pub invariant-loop-dealer : goal.invariant-loop-dealer
invariant-loop-dealer l =
    l.owner.is_short ≡ false →
    FindsMore (InPilesBelow l.dealers l.dealer-index l.number) l.initial.owner.visited
    l.owner.visited [] l.owner.next.items
