-- The entries of a move, as the program holds them.
use Rattle.std.specs.Prelude.{All, List, length, neg_ℤ, pos, ℤ, ◌<ℤ◌, ◌^◌, ◌≤◌}
use Rattle.mb_tables.specs.Limits.{most_cells}

-- the number that is no entry: -(2 ^ 31)
abbrev pub lowest : ℤ
lowest = neg_ℤ (pos (2 ^ 31))

-- an entry lies between -(2 ^ 31) and 2 ^ 31, these two left out
abbrev pub IsEntry : ℤ → Type 0
IsEntry z = (lowest <ℤ z) × (z <ℤ pos (2 ^ 31))

-- a move that the program can hold: at most 64 numbers, each of them an entry
pub record AreEntries (move : List ℤ) : Type 0 where
  pub few : length move ≤ most_cells
  pub each : All IsEntry move
