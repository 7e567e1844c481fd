use Rattle.std.proofs.Common.{[]}
use Rattle.mb_rings.proofs.PlacesBelow.{NearBelow}
use Rattle.mb_rings.proofs.SearchSteps.{IsSearching}
use Rattle.mb_rings.proofs.next.next_ring.Given as goal

abbrev pub invariant-loop-place : goal.invariant-loop-place
invariant-loop-place g l =
    IsSearching (NearBelow l.moves.rows l.ring l.place) l.limit l.initial.visited l.visited []
    l.next.items
