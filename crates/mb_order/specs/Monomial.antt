-- Monomials: exponents of the symbols of margins and cells.
use Rattle.std.specs.Prelude.{List, length, ℕ, ◌<◌, ◌+◌, ◌≡◌, ◌≤◌}

-- a monomial: the exponent of each symbol, those of the margins in front of those of the cells
abbrev pub Monomial : Type 0
Monomial = List ℕ

-- a monomial, and how many of its symbols are margins'
pub record Exponents : Type 0 where
  pub margins : ℕ
  pub list : Monomial

-- 1 to 64 symbols of margins, and 1 to 64 of cells
pub record AreExponents (m : Exponents) : Type 0 where
  pub some_margins : 1 ≤ m.margins
  pub few_margins : m.margins ≤ 64
  pub some_cells : m.margins < length m.list
  pub few_cells : length m.list ≤ m.margins + 64

-- both have as many symbols of each kind
pub record HaveOneShape (a b : Exponents) : Type 0 where
  pub margins : a.margins ≡ b.margins
  pub symbols : length a.list ≡ length b.list
