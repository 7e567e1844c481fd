use Rattle.mb_matrix.specs.Matrix.{fiber_of}
use Rattle.mb_rings.proofs.DistinctTables.{occurrences-distinct}
use Rattle.mb_rings.proofs.FiberSteps.{fiber-ascends, fiber-start}
use Rattle.mb_rings.proofs.RingEnds.{reached-distinct}
use Rattle.mb_rings.specs.Ring.{reached}
use Rattle.mb_rings.proofs.laws.each_is_reached_once.Goals as goal

pub returns : goal.returns
returns c matrix sound moves start long v i =
    occurrences-distinct v (reached matrix moves start)
    (reached-distinct (fiber_of matrix start) moves start (fiber-ascends matrix sound start)
    (fiber-start matrix sound start long)) i
