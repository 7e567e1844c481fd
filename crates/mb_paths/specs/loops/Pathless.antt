-- A rule for which moves have no path.
use Rattle.std.specs.Prelude.{List, ℕ, ℤ, ◌+◌, ◌≡◌}
use Rattle.mb_certificate.specs.Certificate.{Certificate}
use Rattle.mb_paths.specs.Between.{IsApart, PassesLimit}
use Rattle.mb_paths.specs.Beside.{HasPathsBefore, left_table, right_table}
use Rattle.mb_paths.specs.declared.beside_fault.BesideFault.{BesideFault}
use Rattle.mb_paths.specs.declared.beside_fault.BesideFault.TheVariants.{NotAMove, NotBasis, OutOfMemory, TooLarge, WidthDiffers}

-- why the moves have no path for rule k; want of memory is free
abbrev pub IsPathless : ℕ → Certificate → List (List ℤ) → ℕ → BesideFault → Type 0
IsPathless limit c moves k (NotBasis rule left right) =
    (rule ≡ k) × (left ≡ left_table c k) × (right ≡ right_table c k)
    × IsApart limit c.matrix moves left right
IsPathless limit c moves k (TooLarge rule seen) =
    (rule ≡ k) × (seen ≡ limit + 1)
    × PassesLimit limit c.matrix moves (left_table c k) (right_table c k)
IsPathless limit c moves k OutOfMemory = Unit {0}
IsPathless limit c moves k WidthDiffers = ⊥
IsPathless limit c moves k (NotAMove row) = ⊥

-- the same, of the first margin-free rule for which they have none
abbrev pub IsPathlessAt : ℕ → Certificate → List (List ℤ) → BesideFault → Type 0
IsPathlessAt limit c moves fault =
    (k : ℕ) × HasPathsBefore limit c moves k × IsPathless limit c moves k fault
