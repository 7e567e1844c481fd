-- The written form of matrices and moves.
use Rattle.std.specs.Fmt.{decimal, signed_decimal}
use Rattle.std.specs.List.{flat_map, range_with_len}
use Rattle.std.specs.Prelude.{List, [], length, map, pos, ℕ, ℤ, ◌++◌, ◌∷◌}
use Rattle.mb_matrix.specs.Matrix.{Design, row_of, rows_in}
use Rattle.mb_tables.specs.Rows.{Rows}
use Rattle.mb_text.specs.Lines.{line}

-- a line of numbers in decimal
abbrev pub number_line : List ℤ → List ℕ
number_line numbers = line (map signed_decimal numbers)

-- a line with the number of rows and their width, and a line for each row
unfoldable pub written : Rows → List ℕ
written array =
    number_line (pos (length array.rows) ∷ pos array.width ∷ []) ++ flat_map number_line array.rows

-- the items of the lines of a design matrix, one a row
abbrev pub row_lines : Design → List (List (List ℕ))
row_lines matrix = map (λ i. map decimal (row_of matrix i)) (range_with_len 0 matrix.rows)

-- the matrix file of a design matrix
abbrev pub matrix_file : Design → List ℕ
matrix_file matrix = written (record { width = length matrix.columns; rows = rows_in matrix })
