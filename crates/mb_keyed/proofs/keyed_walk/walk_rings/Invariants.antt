use Rattle.std.proofs.Common.{[], length, ◌≡◌}
use Rattle.mb_claims.specs.Claims.{IsRootOf}
use Rattle.mb_keyed.proofs.KeyedWalks.{IsKeyedWalk, visited_of}
use Rattle.mb_keyed.proofs.keyed_walk.walk_rings.Given as goal
use Rattle.mb_keyed.specs.loops.Keyed.{digits_in}
use Rattle.mb_matrix.specs.Matrix.{fiber_of}
use Rattle.mb_rings.proofs.Walking.{distance}
use Rattle.mb_rings.specs.Ring.{tables_of}
use Rattle.mb_rings.specs.loops.RingList.{listed}

abbrev pub invariant-loop-alloc : goal.invariant-loop-alloc
invariant-loop-alloc g l =
    IsRootOf l.shards l.root
    × (l.root.knows.opened ≡ [])
    × (l.earlier ≡ length (tables_of (listed l.rings.items)))
    × IsKeyedWalk (fiber_of l.graph.fiber.matrix l.start) l.graph.moves.rows l.start l.limit
    (digits_in l.graph.fiber) (listed l.rings.items) l.ring.items l.root.knows.gathered

abbrev pub decreases-loop-alloc : goal.decreases-loop-alloc
decreases-loop-alloc g l =
    distance l.limit (visited_of (listed l.rings.items) l.ring.items) l.ring.items
