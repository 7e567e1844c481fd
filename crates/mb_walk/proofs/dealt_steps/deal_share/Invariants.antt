use Rattle.std.proofs.Common.{length, ◌≡◌}
use Rattle.mb_rings.proofs.PlacesBelow.{NearBelow}
use Rattle.mb_walk.specs.loops.Piles.{Deals, IsDealer, seen_by}
use Rattle.mb_walk.proofs.dealt_steps.deal_share.Given as goal

abbrev pub invariant-loop-place : goal.invariant-loop-place
invariant-loop-place g l =
    IsDealer (length l.owners) l.room (seen_by l.owners) l.dealer
    × (length l.dealer.piles.items ≡ length l.owners)
    × Deals l.room (seen_by l.owners) (NearBelow l.moves.rows l.share l.place) l.initial.dealer
    l.dealer
