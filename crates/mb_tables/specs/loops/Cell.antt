-- One cell of a step, as the loops over cells take it.
use Rattle.std.specs.Prelude.{List, length, pos, slice_index_or, ℕ, ℤ, ◌+ℤ◌, ◌-ℤ◌, ◌<◌, ◌≡◌, ◌≤◌, ◌≤ℤ◌}
use Rattle.mb_tables.specs.declared.part.Part.{Part}
use Rattle.mb_tables.specs.declared.sign.Sign.{Sign}
use Rattle.mb_tables.specs.declared.sign.Sign.TheVariants.{Minus, Plus}

-- the count with the entry added or subtracted, as a number with a sign
abbrev pub moved : Sign → ℕ → ℤ → ℤ
moved Plus x entry = pos x +ℤ entry
moved Minus x entry = pos x -ℤ entry

-- the count y is the count x with the entry added, or with it subtracted
abbrev pub IsMovedCount : Sign → ℕ → ℤ → ℕ → Type 0
IsMovedCount sign x entry y = pos y ≡ moved sign x entry

-- the moved count fits 32 bits
abbrev pub CanMoveCount : Sign → ℕ → ℤ → Type 0
CanMoveCount sign x entry =
    (pos 0 ≤ℤ moved sign x entry) × (moved sign x entry ≤ℤ pos 4294967295)

-- the same at the cell of a part
abbrev pub CanMovePart : Sign → List ℕ → Part → Type 0
CanMovePart sign counts part =
    CanMoveCount sign (slice_index_or counts part.cell 0) part.entry

-- the same at the parts from one place on and before another
abbrev pub CanMoveParts : Sign → List ℕ → List Part → ℕ → ℕ → Type 0
CanMoveParts sign counts parts from to =
    (q : ℕ) (d : Part) → from ≤ q → q < to → CanMovePart sign counts (slice_index_or parts q d)

-- it isn't so at one of these parts
abbrev pub CantMovePart : Sign → List ℕ → List Part → Type 0
CantMovePart sign counts parts =
    (q : ℕ) × (q < length parts)
    × ((d : Part) → CanMovePart sign counts (slice_index_or parts q d) → ⊥)
