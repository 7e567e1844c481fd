-- What is known of the design matrix of an array, of moves of the array, and of a table.
use Rattle.std.proofs.Common.{All, List, Ok, ap, arith, length, subst, sum, sym, ℕ, ℤ, ◌<◌, ◌^◌, ◌∙◌, ◌≡◌, ◌≤◌}
use Rattle.mb_desk.proofs.Fitting.{or_ok}
use Rattle.mb_desk.specs.ReachCommand.{designed, matrix_refusal}
use Rattle.mb_matrix.proofs.MarginBounds.{margins_at_most}
use Rattle.mb_matrix.proofs.NoFault as faults
use Rattle.mb_matrix.proofs.NoFault.{no_fault}
use Rattle.mb_matrix.proofs.RowsAndColumns.{is_move-of_rows, length-columns}
use Rattle.mb_matrix.specs.Faults.{matrix_of}
use Rattle.mb_matrix.specs.Limits.{largest_entry}
use Rattle.mb_matrix.specs.Matrix.{Design, IsDesign, IsDesignEntry, IsMove, design_of, margins_of}
use Rattle.mb_tables.specs.Limits.{largest_total}
use Rattle.mb_tables.specs.Rows.{IsMoveOf, Rows}

-- what is known of the design matrix that was decided
pub record IsMade (array : Rows) (matrix : Design) : Type 0 where
  pub same : matrix ≡ design_of array
  pub design : IsDesign (design_of array)
  pub entries : All (λ row. All IsDesignEntry row) array.rows

-- it is the transposed array, whose entries are 0 to 1,000
pub is_made : (array : Rows) (matrix : Design) → All (λ row. length row ≡ array.width) array.rows →
    designed array ≡ Ok matrix → IsMade array matrix
is_made array matrix wide e =
    let taken = faults.accepted array matrix (or_ok matrix_refusal (matrix_of array) matrix e) in
    let known = no_fault array wide taken.0 in
    record { same = taken.1; design = known.design; entries = known.entries }

-- it has a cell a column
pub made_cells : (array : Rows) (matrix : Design) → IsMade array matrix →
    length matrix.columns ≡ array.width
made_cells array matrix made =
    ap (λ (m : Design). length m.columns) made.same ∙ length-columns array

-- moves of the array are moves of it
pub made_moves : (array : Rows) (matrix : Design) →
    All (λ row. length row ≡ array.width) array.rows → IsMade array matrix →
    (moves : List (List ℤ)) → All (IsMoveOf array.rows) moves → All (IsMove matrix) moves
made_moves array matrix wide made moves each =
    subst (λ (m : Design). All (IsMove m) moves) (sym made.same)
    (λ k d l. (is_move-of_rows array _ wide made.entries).1 (each k d l))

-- the margins of a table that isn't too large fit 32 bits
pub small_margins : (array : Rows) (matrix : Design) → IsMade array matrix → (table : List ℕ) →
    sum table ≤ largest_total → All (λ margin. margin < 2 ^ 32) (margins_of matrix table)
small_margins array matrix made table total =
    subst (λ (m : Design). All (λ margin. margin < 2 ^ 32) (margins_of m table)) (sym made.same)
    (λ k d l.
    let m = design_of array in
    let bound = margins_at_most largest_entry m.rows m.columns table made.design.small k d l in
    omega (arith, bound, total))
