-- The laws of reached tables.
use Rattle.std.specs.Prelude.{All, List, Some, length, slice_get, ℕ, ℤ, ◌↔◌, ◌≡◌}
use Rattle.mb_matrix.specs.Ascending.{Ascends, occurrences}
use Rattle.mb_matrix.specs.MarkovBasis.{IsMarkovBasis}
use Rattle.mb_matrix.specs.Matrix.{Design, IsDesign, IsMove, fiber_of}
use Rattle.mb_rings.specs.Distance.{IsAtDistance}
use Rattle.mb_rings.specs.Ring.{reached, rings_of}
use Rattle.mb_rings.specs.ShortestPath.{IsLeastPath}
use Rattle.mb_tables.specs.Chain.{Joined}
use Rattle.mb_tables.specs.Lists.{In}

-- by moves of the matrix, a table is reached from the start exactly where they join it to the
-- start
abbrev pub ReachedIsJoined : Type 0
ReachedIsJoined =
    (matrix : Design) → IsDesign matrix →
    (moves : List (List ℤ)) → All (IsMove matrix) moves →
    (start : List ℕ) → length start ≡ length matrix.columns →
    (v : List ℕ) → In v (reached matrix moves start) ↔ Joined moves start v

-- each reached table stands in one ring, at one place
abbrev pub EachIsReachedOnce : Type 0
EachIsReachedOnce =
    (matrix : Design) → IsDesign matrix →
    (moves : List (List ℤ)) (start : List ℕ) → length start ≡ length matrix.columns →
    (v : List ℕ) → In v (reached matrix moves start) →
    occurrences v (reached matrix moves start) ≡ 1

-- each ring ascends
abbrev pub RingsAscend : Type 0
RingsAscend =
    (matrix : Design) → IsDesign matrix →
    (moves : List (List ℤ)) (start : List ℕ) → length start ≡ length matrix.columns →
    (k : ℕ) (ring : List (List ℕ)) → slice_get (rings_of matrix moves start) k ≡ Some ring →
    Ascends ring

-- by moves of the matrix, ring k has the tables at distance k from the start, and no others
abbrev pub RingsAreByDistance : Type 0
RingsAreByDistance =
    (matrix : Design) → IsDesign matrix →
    (moves : List (List ℤ)) → All (IsMove matrix) moves →
    (start : List ℕ) → length start ≡ length matrix.columns →
    (k : ℕ) (ring : List (List ℕ)) → slice_get (rings_of matrix moves start) k ≡ Some ring →
    (v : List ℕ) → In v ring ↔ IsAtDistance moves start k v

-- a Markov basis reaches exactly the fiber of the start
abbrev pub MarkovBasisReachesFiber : Type 0
MarkovBasisReachesFiber =
    (matrix : Design) → IsDesign matrix →
    (moves : List (List ℤ)) → IsMarkovBasis matrix moves →
    (start : List ℕ) → length start ≡ length matrix.columns →
    (v : List ℕ) → In v (reached matrix moves start) ↔ In v (fiber_of matrix start)

-- there is one least path between two tables at most
abbrev pub LeastPathIsOne : Type 0
LeastPathIsOne =
    (moves : List (List ℤ)) (u v : List ℕ) (first second : List ℤ) →
    IsLeastPath moves u first v → IsLeastPath moves u second v → first ≡ second
