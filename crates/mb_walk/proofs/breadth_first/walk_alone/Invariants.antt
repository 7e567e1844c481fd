use Rattle.mb_matrix.specs.Matrix.{fiber_of}
use Rattle.mb_rings.proofs.Walking.{IsWalked, distance}
use Rattle.mb_rings.specs.loops.RingList.{listed}
use Rattle.mb_walk.proofs.breadth_first.walk_alone.Given as goal

abbrev pub invariant-loop-alloc : goal.invariant-loop-alloc
invariant-loop-alloc g l =
    IsWalked (fiber_of l.matrix l.start) l.moves.rows l.start l.limit (listed l.rings.items)
    l.ring.items l.visited

abbrev pub decreases-loop-alloc : goal.decreases-loop-alloc
decreases-loop-alloc g l = distance l.limit l.visited l.ring.items
