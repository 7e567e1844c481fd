-- Keys and ranks of the tables of a fiber: mixed-radix numbers of their free cells (Knuth, The Art
-- of Computer Programming 2, 4.1).
use Rattle.std.specs.List.{fold}
use Rattle.std.specs.Prelude.{All, List, [], length, map, min, reverse, suc, zero, ℕ, ℤ, ◌%◌, ◌*◌, ◌+◌, ◌-◌, ◌/◌, ◌<◌, ◌^◌, ◌∷◌, ◌≡◌, ◌≤◌}
use Rattle.mb_matrix.specs.Matrix.{Design, column_at}
use Rattle.mb_matrix.specs.Peel.{free_cells}
use Rattle.mb_matrix.specs.declared.digit.Digit.{Digit}
use Rattle.mb_tables.specs.Step.{Adds}
use Rattle.mb_tables.specs.Vectors.{at}

-- the margins divided by the entries above 0 of a column, rounded down
unfoldable pub quotients : List ℕ → List ℕ → List ℕ
quotients (zero ∷ column) (margin ∷ margins) = quotients column margins
quotients (suc entry ∷ column) (margin ∷ margins) =
    (margin / suc entry) ∷ quotients column margins
quotients _ _ = []

-- the least of some numbers; of none it is 0
abbrev pub least : List ℕ → ℕ
least [] = 0
least (x ∷ xs) = fold min x xs

-- the bound of a cell by the margins: no table of these counts more there
abbrev pub bound_of : Design → List ℕ → ℕ → ℕ
bound_of matrix margins cell = least (quotients (column_at matrix cell) margins)

-- a free cell with its bound
abbrev pub digit_of : Design → List ℕ → ℕ → Digit
digit_of matrix margins cell = record { cell = cell; bound = bound_of matrix margins cell }

-- the digits of the keys of these margins: the free cells in ascending order, with their bounds
abbrev pub digits_of : Design → List ℕ → List Digit
digits_of matrix margins = map (digit_of matrix margins) (free_cells matrix)

-- how many keys such digits make: the product of bound + 1
unfoldable pub key_count : List Digit → ℕ
key_count [] = 1
key_count (d ∷ digits) = suc d.bound * key_count digits

-- the mixed-radix number of a table's counts at these cells, the first least significant
unfoldable pub number : List Digit → List ℕ → ℕ
number [] u = 0
number (d ∷ digits) u = at u d.cell + suc d.bound * number digits u

-- the key of a table: its number and 1, so that no key is 0
abbrev pub key_of : List Digit → List ℕ → ℕ
key_of digits u = 1 + number digits u

-- the rank of a table: its number with the first cell most significant, so that ranks ascend with
-- the tables of a fiber
abbrev pub rank_of : List Digit → List ℕ → ℕ
rank_of digits u = number (reverse digits) u

-- a table has the cells of the digits, and counts there no more than the bounds
pub record Suits (digits : List Digit) (u : List ℕ) : Type 0 where
  pub cells : All (λ d. d.cell < length u) digits
  pub bounded : All (λ d. at u d.cell ≤ d.bound) digits

-- what a step along a move adds to the value of a table (its key or its rank), up to multiples of
-- 2^64; where the move is subtracted, it is taken off
pub record IsDelta (value : List ℕ → ℕ) (digits : List Digit) (move : List ℤ) (delta : ℕ)
    : Type 0 where
  pub added : (u v : List ℕ) → Adds u move v → Suits digits v →
      value v ≡ (value u + delta) % 2 ^ 64
  pub subtracted : (u v : List ℕ) → Adds v move u → Suits digits v →
      value v ≡ (value u + (2 ^ 64 - delta)) % 2 ^ 64
