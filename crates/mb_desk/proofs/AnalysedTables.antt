-- The table of a dataset that is analysed, and the rings of its fiber.
use Rattle.std.proofs.Common.{All, List, [], ap, arith, length, map, sum, ℕ, ℤ, ◌<◌, ◌^◌, ◌∷◌, ◌≡◌, ◌≤◌}
use Rattle.mb_desk.specs.ExactTest.{AreFigures}
use Rattle.mb_desk.specs.declared.exact_test.Figures.{Figures}
use Rattle.mb_matrix.specs.Ascending.{occurrences}
use Rattle.mb_matrix.specs.Limits.{largest_entry}
use Rattle.mb_matrix.proofs.MarginBounds.{margins_at_most}
use Rattle.mb_matrix.specs.Matrix.{Design, IsDesign, margins_of}
use Rattle.mb_matrix.specs.Measure.{Weighting}
use Rattle.mb_rings.proofs.FiberSteps.{fiber-start}
use Rattle.mb_rings.specs.Ring.{Ring, tables_of}

-- where the counts add up to at most 1,000,000, the margins fit 32 bits
pub total-margins : (matrix : Design) (table : List ℕ) → IsDesign matrix → sum table ≤ 1000000 →
    All (λ margin. margin < 2 ^ 32) (margins_of matrix table)
total-margins matrix table design total k d l =
    let bound = margins_at_most largest_entry matrix.rows matrix.columns table design.small k d l in
    omega (arith, bound, total)

-- the tables of so many rings, of which one is there
pub rings-there : (rings : List Ring) (sizes : List ℕ) (table : List ℕ) →
    sizes ≡ map (length {A = List ℕ}) rings → occurrences table (tables_of rings) ≡ 1 →
    1 ≤ length sizes
rings-there [] sizes table same once = absurd (cc)
rings-there (ring ∷ rings) sizes table same once = let long = ap length same in omega arith

-- there is a ring
pub some-rings : (matrix : Design) (moves : List (List ℤ)) (measure : Weighting)
    (observed : List ℕ) (figures : Figures) → IsDesign matrix →
    length observed ≡ length matrix.columns → AreFigures matrix moves measure observed figures →
    1 ≤ length figures.rings.items
some-rings matrix moves measure observed figures design long are =
    rings-there are.0 figures.rings.items observed are.1
    ((are.2).once observed (fiber-start matrix design observed long))
