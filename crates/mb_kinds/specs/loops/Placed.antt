-- Generators by the places of their factors.
use Rattle.std.specs.Prelude.{All, List, length, ℕ, ℤ, ◌<◌}
use Rattle.std.specs.List.{flat_map}
use Rattle.mb_data.specs.CrossTable.{CrossTable}

-- each place is that of a factor
abbrev pub IsPlaced : CrossTable → List ℕ → Type 0
IsPlaced table generator = All (λ k. k < length table.factors) generator

-- so in each generator
abbrev pub ArePlaced : CrossTable → List (List ℕ) → Type 0
ArePlaced table generators = All (IsPlaced table) generators

-- rows end to end
abbrev pub end_to_end : List (List ℤ) → List ℤ
end_to_end rows = flat_map (λ row. row) rows
