-- The laws of orders, of weights and of steps.
use Rattle.std.specs.Prelude.{List, Some, length, slice_get, true, ℕ, ◌++◌, ◌+◌, ◌↔◌, ◌≡◌, ◌≤◌}
use Rattle.mb_matrix.specs.Fiber.{AreColumns, margins}
use Rattle.mb_matrix.specs.Matrix.{Design, IsDesign}
use Rattle.mb_order.specs.Limits.{largest_exponent}
use Rattle.mb_order.specs.MarginFree.{Eliminates}
use Rattle.mb_order.specs.Monomial.{Monomial}
use Rattle.mb_order.specs.Order.{IsOrder, monomial_cmp}
use Rattle.mb_order.specs.Rewriting.{Rule, Step, made}
use Rattle.mb_order.specs.Weight.{IsLight, symbols}
use Rattle.mb_order.specs.declared.order.Order.{Order}
use Rattle.mb_tables.specs.Vectors.{at, plus, within}

-- both orders are monomial orders, and elimination orders for the margins' symbols
abbrev pub Orders : Type 0
Orders =
    (order : Order) (d width : ℕ) →
    IsOrder width (monomial_cmp order d) × Eliminates d width (monomial_cmp order d)

-- the weight of a monomial: its margin exponents, and the margins of its cell exponents
abbrev pub WeightByParts : Type 0
WeightByParts =
    (d : ℕ) (columns : List (List ℕ)) (own cells : List ℕ) → AreColumns d columns →
    length own ≡ d →
    margins d (symbols d columns) (own ++ cells) ≡ plus own (margins d columns cells)

-- where no margin weighs more than 65,535, no exponent passes that
abbrev pub LightExponents : Type 0
LightExponents =
    (matrix : Design) → IsDesign matrix → (m : Monomial) →
    length m ≡ matrix.rows + length matrix.columns → IsLight matrix m →
    (k : ℕ) → at m k ≤ largest_exponent

-- a rule takes m to p exactly where its left side divides m and p is what it makes of m
abbrev pub Steps : Type 0
Steps =
    (rules : List Rule) (k : ℕ) (rule : Rule) → slice_get rules k ≡ Some rule →
    (m p : Monomial) → length rule.0 ≡ length m → length rule.1 ≡ length m → length p ≡ length m →
    Step rules k m p ↔ ((within rule.0 m ≡ true) × (p ≡ made rule m))
