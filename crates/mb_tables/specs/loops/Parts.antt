-- How the program keeps a move: its entries that aren't 0, each beside its cell.
use Rattle.std.specs.List.{AllByRecursion}
use Rattle.std.specs.Prelude.{All, Bool, List, [], cond, int_lt, length, pos, replicate, suc, zero, ℕ, ℤ, ◌+ℤ◌, ◌<◌, ◌∷◌, ◌≢◌, ◌≤◌}
use Rattle.mb_tables.specs.Entries.{AreEntries}
use Rattle.mb_tables.specs.declared.part.Part.{Part}

-- a number added at a place of a list
unfoldable pub add_at : ℕ → ℤ → List ℤ → List ℤ
add_at k z [] = []
add_at zero z (x ∷ list) = (x +ℤ z) ∷ list
add_at (suc k) z (x ∷ list) = x ∷ add_at k z list

-- the entries of so many cells that are 0 but for these parts
unfoldable pub entries_of : ℕ → List Part → List ℤ
entries_of cells [] = replicate cells (pos 0)
entries_of cells (part ∷ parts) = add_at part.cell part.entry (entries_of cells parts)

-- no cell has two parts
unfoldable pub AreApart : List Part → Type 0
AreApart [] = Unit {0}
AreApart (part ∷ parts) = AllByRecursion (λ other. part.cell ≢ other.cell) parts × AreApart parts

-- each part has one of the cells, no cell has two, and the entries are those of a move; the first
-- of the parts, so many of them, are told from the others
pub record AreMoveParts (cells lows : ℕ) (parts : List Part) : Type 0 where
  pub within : All (λ part. part.cell < cells) parts
  pub apart : AreApart parts
  pub sound : AreEntries (entries_of cells parts)
  pub split : lows ≤ length parts

-- the parts of the entries that pass a test, where the first entry is that of cell k
unfoldable pub picked : (ℤ → Bool) → ℕ → List ℤ → List Part
picked test k [] = []
picked test k (z ∷ entries) =
    cond (test z) (record { cell = k; entry = z } ∷ picked test (suc k) entries)
    (picked test (suc k) entries)

-- whether an entry is below 0
abbrev pub is_low : ℤ → Bool
is_low z = int_lt z (pos 0)

-- whether an entry is above 0
abbrev pub is_high : ℤ → Bool
is_high z = int_lt (pos 0) z
