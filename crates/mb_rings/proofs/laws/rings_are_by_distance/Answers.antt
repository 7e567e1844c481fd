use Rattle.mb_matrix.specs.Matrix.{fiber_of}
use Rattle.mb_rings.proofs.FiberSteps.{fiber-ascends, fiber-closed, fiber-start}
use Rattle.mb_rings.proofs.RingDistances.{rings-distance}
use Rattle.mb_rings.proofs.laws.rings_are_by_distance.Goals as goal

pub returns : goal.returns
returns c matrix sound moves each start long k ring e v =
    rings-distance (fiber_of matrix start) moves start (fiber-ascends matrix sound start)
    (fiber-start matrix sound start long) (fiber-closed matrix sound start moves each) k ring e v
