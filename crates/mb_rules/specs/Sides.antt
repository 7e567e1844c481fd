-- Rules as the program holds them: two monomials each, and beside them the sets of the symbols of
-- the left sides.
use Rattle.std.specs.Prelude.{List, Some, length, map, slice_get, ℕ, ◌≡◌}
use Rattle.mb_matrix.specs.Matrix.{Design}
use Rattle.mb_order.specs.Rewriting as rewriting
use Rattle.mb_order.specs.Symbols.{IsSetOf}
use Rattle.mb_order.specs.Weight.{Suits}
use Rattle.mb_order.specs.declared.order.Order.{Order}
use Rattle.mb_rules.specs.RuleList.{AreRules}
use Rattle.mb_rules.specs.declared.rule.Rule.{Rule}
use Rattle.mb_tables.specs.Vectors.{at}

-- both sides of a rule
abbrev pub sides : Rule → rewriting.Rule
sides rule = (rule.left.list, rule.right.list)

-- both sides have the matrix's shape
pub record RuleSuits (matrix : Design) (rule : Rule) : Type 0 where
  pub left : Suits matrix rule.left
  pub right : Suits matrix rule.right

-- one set of symbols a rule: that of its left side
pub record AreLeftSets (rules : List Rule) (sets : List ℕ) : Type 0 where
  pub as_many : length sets ≡ length rules
  pub each : (k : ℕ) (rule : Rule) → slice_get rules k ≡ Some rule →
      IsSetOf (at sets k) rule.left.list

-- what a list of rules keeps
pub record IsRuleList
    (matrix : Design) (order : Order) (rules : List Rule) (sets : List ℕ) : Type 0 where
  pub sound : AreRules (record { matrix = matrix; order = order; rules = map sides rules })
  pub suited : (k : ℕ) (rule : Rule) → slice_get rules k ≡ Some rule → RuleSuits matrix rule
  pub marked : AreLeftSets rules sets
