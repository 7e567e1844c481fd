-- The tables of a ring have the cells of the matrix.
use Rattle.std.proofs.Common.{All, List, length, ℕ, ℤ, ◌<◌, ◌^◌, ◌≡◌}
use Rattle.mb_matrix.specs.Matrix.{Design, IsDesign, IsMove, fiber_of, margins_of}
use Rattle.mb_rings.proofs.FiberSteps.{fiber-only, fiber-walkable}
use Rattle.mb_rings.proofs.Walking.{IsWalked, ring-fiber}
use Rattle.mb_rings.specs.Ring.{Ring}
use Rattle.mb_tables.specs.Lists.{In}

-- each table of the ring that is to be expanded has as many cells as the matrix has columns
pub ring-cells : (matrix : Design) → IsDesign matrix → (start : List ℕ) (moves : List (List ℤ)) →
    All (IsMove matrix) moves → length start ≡ length matrix.columns →
    All (λ margin. margin < 2 ^ 32) (margins_of matrix start) →
    (limit : ℕ) (rings : List Ring) (ring : Ring) (visited : List (List ℕ)) →
    IsWalked (fiber_of matrix start) moves start limit rings ring visited →
    (u : List ℕ) → In u ring → length u ≡ length matrix.columns
ring-cells matrix sound start moves each long small limit rings ring visited w u i =
    (fiber-only matrix sound start u
    (ring-fiber (fiber_of matrix start) moves start limit rings ring visited w
    (fiber-walkable matrix sound start moves each long small) u i)).0
