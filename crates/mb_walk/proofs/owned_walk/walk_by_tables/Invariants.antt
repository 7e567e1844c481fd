use Rattle.std.proofs.Common.{length, ◌≡◌}
use Rattle.mb_matrix.specs.Matrix.{fiber_of}
use Rattle.mb_rings.proofs.Walking.{IsWalked, distance}
use Rattle.mb_rings.specs.loops.RingList.{listed}
use Rattle.mb_walk.specs.loops.Piles.{AreOwned, kept, seen_by}
use Rattle.mb_walk.proofs.owned_walk.walk_by_tables.Given as goal

abbrev pub invariant-loop-alloc : goal.invariant-loop-alloc
invariant-loop-alloc g l =
    IsWalked (fiber_of l.matrix l.start) l.moves.rows l.start l.limit (listed l.rings.items)
    l.ring.items (seen_by l.owners.items)
    × (l.seen ≡ length (seen_by l.owners.items))
    × (length l.owners.items ≡ l.fn.workers)
    × AreOwned (length l.owners.items) (kept l.owners.items)

abbrev pub decreases-loop-alloc : goal.decreases-loop-alloc
decreases-loop-alloc g l = distance l.limit (seen_by l.owners.items) l.ring.items
