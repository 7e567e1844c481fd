use Rattle.std.proofs.Common.{length, ◌≡◌}
use Rattle.mb_rings.proofs.PlacesBelow.{SteppedBelow}
use Rattle.mb_walk.specs.loops.Piles.{Deals, IsDealer, seen_by}
use Rattle.mb_walk.proofs.dealt_steps.deal_steps.Given as goal

abbrev pub invariant-loop-k : goal.invariant-loop-k
invariant-loop-k l =
    IsDealer (length l.owners) l.room (seen_by l.owners) l.dealer
    × (length l.dealer.piles.items ≡ length l.owners)
    × (l.table ≡ l.initial.table)
    × Deals l.room (seen_by l.owners) (SteppedBelow l.z-items l.k l.initial.table)
    l.initial.dealer l.dealer
