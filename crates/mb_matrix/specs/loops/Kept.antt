-- How the program keeps a design matrix: its entries row by row, without signs.
use Rattle.std.specs.Prelude.{Bool, List, length, map, pos, ℕ, ℤ, ◌*◌, ◌≡◌}
use Rattle.mb_matrix.specs.Faults.{is_large, is_negative}
use Rattle.mb_matrix.specs.Matrix.{Design, IsDesign, design_of}
use Rattle.mb_matrix.specs.declared.test.Test.{Test}
use Rattle.mb_matrix.specs.declared.test.Test.TheVariants.{Small, Unsigned}
use Rattle.mb_tables.specs.Rows.{Rows, array_of}

-- the array of so many rows and cells whose entries these are
abbrev pub kept_array : ℕ → ℕ → List ℕ → Rows
kept_array rows cols entries = array_of cols rows (map pos entries)

-- its design matrix
abbrev pub kept_design : ℕ → ℕ → List ℕ → Design
kept_design rows cols entries = design_of (kept_array rows cols entries)

-- the entries are as many as rows times cells, and make a design matrix
pub record IsKept (rows cols : ℕ) (entries : List ℕ) : Type 0 where
  pub full : length entries ≡ rows * cols
  pub design : IsDesign (kept_design rows cols entries)

-- whether an entry fails a test
abbrev pub fails : Test → ℤ → Bool
fails Unsigned entry = is_negative entry
fails Small entry = is_large entry
