-- The tables that moves of a matrix reach from a start are those that they join to it, and those of
-- a Markov basis are the whole fiber.
use Rattle.std.proofs.Common.{sym}
use Rattle.mb_matrix.specs.Matrix.{fiber_of}
use Rattle.mb_rings.proofs.FiberSteps.{fiber-ascends, fiber-closed, fiber-only, fiber-start}
use Rattle.mb_rings.proofs.RingEnds.{joined-reached, reached-fiber, reached-joined}
use Rattle.mb_rings.specs.Laws.{MarkovBasisReachesFiber, ReachedIsJoined}

-- the law of reached tables
pub reaches_joined : ReachedIsJoined
reaches_joined matrix sound moves each start long v =
    let ascends = fiber-ascends matrix sound start in
    let within = fiber-start matrix sound start long in (
      reached-joined (fiber_of matrix start) moves start ascends within v,
      joined-reached (fiber_of matrix start) moves start ascends within
          (fiber-closed matrix sound start moves each) v,
    )

-- the law of Markov bases
pub reaches_fiber : MarkovBasisReachesFiber
reaches_fiber matrix sound moves basis start long v = (
  reached-fiber (fiber_of matrix start) moves start (fiber-ascends matrix sound start)
      (fiber-start matrix sound start long) v,
  (λ i. let has = fiber-only matrix sound start v i in
      (reaches_joined matrix sound moves basis.kept start long v).1
      (basis.joins start v long has.0 (sym has.1))),
)
