use Rattle.std.proofs.Common.{[], ◌≡◌}
use Rattle.mb_claims.specs.Claims.{IsRootOf}
use Rattle.mb_keyed.proofs.claimed_ring.claim_ring.Given as goal
use Rattle.mb_keyed.specs.loops.Graph.{IsKeyNear}
use Rattle.mb_keyed.specs.loops.Keyed.{AreFound}
use Rattle.mb_keyed.specs.loops.Worked.{keys_in}

abbrev pub invariant-loop : goal.invariant-loop
invariant-loop g l =
    IsRootOf l.shards l.root
    × (l.root.knows.opened ≡ [])
    × AreFound (IsKeyNear l.graph l.ring) l.fn.root.knows.gathered
    l.root.knows.gathered (keys_in l.found.items)
