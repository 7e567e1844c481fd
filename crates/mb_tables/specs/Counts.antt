-- A table of counts, as the program holds it.
use Rattle.std.specs.Prelude.{All, List, length, ℕ, ◌<◌, ◌^◌, ◌≤◌}
use Rattle.mb_tables.specs.Limits.{most_cells}

-- each count fits 32 bits
abbrev pub AreCounts : List ℕ → Type 0
AreCounts counts = All (λ count. count < 2 ^ 32) counts

-- a table has at most 64 cells
abbrev pub HasFewCells : List ℕ → Type 0
HasFewCells counts = length counts ≤ most_cells

-- a table that the program can hold
pub record IsTable (counts : List ℕ) : Type 0 where
  pub few : HasFewCells counts
  pub fits : AreCounts counts
