-- The test of the rows of a move file against a matrix.
use Rattle.std.specs.List.{list_all}
use Rattle.std.specs.Ordering.{int_eq}
use Rattle.std.specs.Prelude.{Bool, List, None, Ok, Option, Result, Some, [], if◌then◌else◌, length, pos, suc, ℕ, ℤ, ◌==◌, ◌∷◌}
use Rattle.mb_tables.specs.Answers.{◌>>=◌}
use Rattle.mb_tables.specs.Margin.{move_margin}
use Rattle.mb_tables.specs.Rows.{Rows}
use Rattle.mb_moves.specs.GridText.{moves_of}
use Rattle.mb_moves.specs.declared.fault.GridFault.{GridFault}
use Rattle.mb_moves.specs.declared.testing.Tested.{Tested}
use Rattle.mb_moves.specs.declared.testing.Tested.TheVariants.{Moves, NotAMove, WidthDiffers}

-- whether the sum of the move with each row of a matrix is 0
abbrev pub is_move : List (List ℤ) → List ℤ → Bool
is_move matrix move = list_all (λ row. int_eq (move_margin row move) (pos 0)) matrix

-- the number of the first row that is no move of the matrix, where the rows are numbered from
-- this number on
abbrev pub first_wrong : List (List ℤ) → ℕ → List (List ℤ) → Option ℕ
first_wrong matrix number [] = None
first_wrong matrix number (move ∷ rows) =
    if is_move matrix move then first_wrong matrix (suc number) rows else Some number

-- the number of the rows, or the first that is no move
abbrev pub verdict : List (List ℤ) → Option ℕ → Tested
verdict rows None = Moves (length rows)
verdict rows (Some row) = NotAMove row

-- how the rows stand to the matrix: the widths are compared first, and then each row is tested
abbrev pub tested_of : Rows → Rows → Tested
tested_of matrix moves =
    if matrix.width == moves.width then verdict moves.rows (first_wrong matrix.rows 1 moves.rows)
    else WidthDiffers moves.width

-- how the rows of a move file stand to the matrix, or the first fault of the file
abbrev pub tested_text : Rows → List ℕ → Result Tested GridFault
tested_text matrix text = moves_of text >>= λ moves. Ok (tested_of matrix moves)
