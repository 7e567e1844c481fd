-- Rows of a design matrix by their numbers from 1.
use Rattle.std.proofs.Common.{[], ap, arith, false, length, suc, zero, ℕ, ◌<◌, ◌==◌, ◌∙◌, ◌≡◌}
use Rattle.std.proofs.lemmas.List.{get_or_past}
use Rattle.std.proofs.lemmas.List.Elements.{All-from_recursion}
use Rattle.mb_matrix.proofs.RowsAndColumns.{row_entry}
use Rattle.mb_matrix.specs.Fiber.{IsColumn}
use Rattle.mb_matrix.specs.Matrix.{Design, IsDesign, column_at}
use Rattle.mb_matrix.specs.Measure.{has_cell}

-- past the last row, no cell is in a row
pub no_row_has : (matrix : Design) (cell n : ℕ) → IsDesign matrix → cell < length matrix.columns →
    matrix.rows < n → has_cell matrix cell n ≡ false
no_row_has matrix cell zero sound within past = absurd (omega arith)
no_row_has matrix cell (suc i) sound within past =
    let column = All-from_recursion (IsColumn matrix.rows) matrix.columns sound.each cell []
    within in
    let none = get_or_past (column_at matrix cell) i 0 (let high = column.high in omega arith) in
    ap (λ entry. entry == 1) (row_entry matrix i cell within ∙ none)
