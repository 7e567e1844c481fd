use Rattle.mb_matrix.specs.Matrix.{fiber_of}
use Rattle.mb_rings.proofs.FiberSteps.{fiber-ascends, fiber-start}
use Rattle.mb_rings.proofs.RingDistances.{rings-ascend}
use Rattle.mb_rings.proofs.laws.rings_ascend.Goals as goal

pub returns : goal.returns
returns c matrix sound moves start long k ring e =
    rings-ascend (fiber_of matrix start) moves start (fiber-ascends matrix sound start)
    (fiber-start matrix sound start long) k ring e
