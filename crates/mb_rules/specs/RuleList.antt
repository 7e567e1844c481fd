-- Lists of rules over a design matrix.
use Rattle.std.specs.Prelude.{List, length, ◌≤◌}
use Rattle.std.specs.declared.cmp.Ordering.{Ordering}
use Rattle.mb_matrix.specs.Matrix.{Design, IsDesign}
use Rattle.mb_order.specs.Monomial.{Monomial}
use Rattle.mb_order.specs.Order.{monomial_cmp}
use Rattle.mb_order.specs.Rewriting.{AreValid, IsValid, Rule}
use Rattle.mb_order.specs.Weight.{symbols_of}
use Rattle.mb_order.specs.declared.order.Order.{Order}
use Rattle.mb_rules.specs.Limits.{most_rules}

-- the matrix, the order, and the rules
pub record RuleList : Type 0 where
  pub matrix : Design
  -- the order of the list is a monomial order
  pub order : Order
  pub rules : List Rule

-- how monomials of the matrix are compared
abbrev pub cmp_of : Order → Design → Monomial → Monomial → Ordering
cmp_of order matrix = monomial_cmp order matrix.rows

-- a rule of monomials of the matrix, whose sides have equal weight and whose left side is the
-- larger
abbrev pub IsRuleOf : Order → Design → Rule → Type 0
IsRuleOf order matrix rule =
    IsValid matrix.rows (symbols_of matrix) (cmp_of order matrix) rule

-- each rule is one
abbrev pub ValidRules : Order → Design → List Rule → Type 0
ValidRules order matrix rules =
    AreValid matrix.rows (symbols_of matrix) (cmp_of order matrix) rules

-- each rule is one of the matrix, and there are at most 1,000,064
pub record AreRules (list : RuleList) : Type 0 where
  pub design : IsDesign list.matrix
  pub valid : ValidRules list.order list.matrix list.rules
  pub few : length list.rules ≤ most_rules
