-- A fraction in decimals, cut off.
use Rattle.std.specs.Prelude.{List, [], codes, cond, suc, zero, ℕ, ◌%◌, ◌*◌, ◌++◌, ◌+◌, ◌/◌, ◌==◌, ◌^◌, ◌∷◌}

-- the last k decimal digits of n
unfoldable pub digits : ℕ → ℕ → List ℕ
digits zero n = []
digits (suc k) n = digits k (n / 10) ++ (48 + n % 10) ∷ []

-- the text of a fraction that is at most 1: its first six decimals, cut off and not rounded
abbrev pub decimals_of : ℕ → ℕ → List ℕ
decimals_of below whole =
    cond (below == whole) (codes "1.000000") (codes "0." ++ digits 6 (below * 10 ^ 6 / whole))
