-- The weight of a monomial (its multidegree, or A-degree; Sturmfels 1996, chapter 1).
use Rattle.std.specs.Prelude.{List, [], length, suc, zero, ℕ, ◌++◌, ◌+◌, ◌∷◌, ◌≡◌, ◌≤◌}
use Rattle.mb_matrix.specs.Fiber.{margins}
use Rattle.mb_matrix.specs.Matrix.{Design}
use Rattle.mb_order.specs.Limits.{most_weight}
use Rattle.mb_order.specs.Monomial.{Exponents, Monomial}
use Rattle.mb_tables.specs.Vectors.{at, unit}

-- the unit columns of so many margins, from margin k on
unfoldable pub units_from : ℕ → ℕ → ℕ → List (List ℕ)
units_from d k zero = []
units_from d k (suc more) = unit d k ∷ units_from d (suc k) more

-- the columns of all symbols: of each margin's symbol its unit, and of each cell's its column
abbrev pub symbols : ℕ → List (List ℕ) → List (List ℕ)
symbols d columns = units_from d 0 d ++ columns

-- the same of a design matrix A: the columns of (identity | A)
abbrev pub symbols_of : Design → List (List ℕ)
symbols_of matrix = symbols matrix.rows matrix.columns

-- the weight of a monomial: the margins of its exponents as a table of all symbols, so that on
-- each margin it is the margin's own exponent and each cell's times its entry of the row
abbrev pub weights : Design → Monomial → List ℕ
weights matrix m = margins matrix.rows (symbols_of matrix) m

-- as many symbols of each kind as the matrix has margins and cells
pub record Suits (matrix : Design) (m : Exponents) : Type 0 where
  pub margins : m.margins ≡ matrix.rows
  pub symbols : length m.list ≡ matrix.rows + length matrix.columns

-- on no margin does the monomial weigh more than 65,535
abbrev pub IsLight : Design → Monomial → Type 0
IsLight matrix m = (i : ℕ) → at (weights matrix m) i ≤ most_weight
