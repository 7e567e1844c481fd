-- The rules that a run begins with.
use Rattle.std.specs.Prelude.{List, [], length, suc, ℕ, ◌++◌, ◌∷◌}
use Rattle.mb_matrix.specs.Matrix.{Design}
use Rattle.mb_order.specs.MarginFree.{of_table}
use Rattle.mb_order.specs.Rewriting.{Rule}
use Rattle.mb_tables.specs.Vectors.{unit, zeros}

-- the rule of a cell among n: from the margins' symbols of its column to the cell's symbol
abbrev pub birth_of : ℕ → ℕ → ℕ → List ℕ → Rule
birth_of d n j column = (column ++ zeros n, of_table d (unit n j))

-- the rules of the cells from j on, which have these columns
unfoldable pub births_from : ℕ → ℕ → ℕ → List (List ℕ) → List Rule
births_from d n j [] = []
births_from d n j (column ∷ columns) = birth_of d n j column ∷ births_from d n (suc j) columns

-- the rules of all cells, in order
abbrev pub births : ℕ → List (List ℕ) → List Rule
births d columns = births_from d (length columns) 0 columns

-- the same of a design matrix
abbrev pub births_of : Design → List Rule
births_of matrix = births matrix.rows matrix.columns
