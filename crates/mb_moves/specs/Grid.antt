-- A matrix as its text has it.
use Rattle.std.specs.Prelude.{List, length, ℕ, ℤ, ◌*◌, ◌≡◌}
use Rattle.mb_tables.specs.Limits.{most_cells}
use Rattle.mb_tables.specs.Rows.{AreRows, array_of}

-- numbers of rows and columns, 1 to 64 each, and the entries row by row, one for each row and
-- column
pub record IsGrid (rows cols : ℕ) (entries : List ℤ) : Type 0 where
  pub array : AreRows 1 most_cells (array_of cols rows entries)
  pub full : length entries ≡ rows * cols
