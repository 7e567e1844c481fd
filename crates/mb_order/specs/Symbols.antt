-- The set of the symbols that occur in a monomial.
use Rattle.std.specs.Int.{bit_at}
use Rattle.std.specs.Prelude.{min, ℕ, ◌≡◌}
use Rattle.mb_order.specs.Monomial.{AreExponents, Exponents, Monomial}
use Rattle.mb_tables.specs.Vectors.{at}

-- a number with one bit a symbol: set exactly where the symbol's exponent is above 0
abbrev pub IsSetOf : ℕ → Monomial → Type 0
IsSetOf set m = (k : ℕ) → bit_at set k ≡ min (at m k) 1

-- exponents, and their set
pub record IsMonomial (m : Exponents) (set : ℕ) : Type 0 where
  pub shape : AreExponents m
  pub occurring : IsSetOf set m.list
