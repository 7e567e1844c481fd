-- A rectangular array: the rows of a matrix, or the moves of a list.
use Rattle.std.specs.Prelude.{All, List, [], drop, length, pos, suc, take, zero, ℕ, ℤ, ◌∷◌, ◌≡◌, ◌≤◌}
use Rattle.mb_tables.specs.Entries.{IsEntry}
use Rattle.mb_tables.specs.Limits.{most_cells}
use Rattle.mb_tables.specs.Margin.{move_margin}

-- how many cells a row has, and the rows
pub record Rows : Type 0 where
  pub width : ℕ
  pub rows : List (List ℤ)

-- so many rows, each of the width, which is 1 to 64, and each of their numbers an entry
pub record AreRows (lowest highest : ℕ) (array : Rows) : Type 0 where
  pub positive : 1 ≤ array.width
  pub narrow : array.width ≤ most_cells
  pub each : All (λ row. length row ≡ array.width) array.rows
  pub some : lowest ≤ length array.rows
  pub few : length array.rows ≤ highest
  pub entries : All (λ row. All IsEntry row) array.rows

-- a move of the rows: its sum with each row is 0, so that adding it keeps these margins
abbrev pub IsMoveOf : List (List ℤ) → List ℤ → Type 0
IsMoveOf rows move = All (λ row. move_margin row move ≡ pos 0) rows

-- so many rows of so many entries each, from entries row by row
unfoldable pub rows_of : ℕ → ℕ → List ℤ → List (List ℤ)
rows_of width zero entries = []
rows_of width (suc count) entries =
    take width entries ∷ rows_of width count (drop width entries)

-- the array of entries row by row
abbrev pub array_of : ℕ → ℕ → List ℤ → Rows
array_of width count entries = record { width = width; rows = rows_of width count entries }
