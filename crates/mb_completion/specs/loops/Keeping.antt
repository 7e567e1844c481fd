-- A reduction on its way.
use Rattle.std.specs.Prelude.{List, length, map, ℕ, ◌<◌, ◌≡◌, ◌≤◌}
use Rattle.mb_completion.specs.loops.Kept.{IsKept}
use Rattle.mb_matrix.specs.Matrix.{Design}
use Rattle.mb_order.specs.Peak.{left_of}
use Rattle.mb_order.specs.Rewriting as rewriting
use Rattle.mb_order.specs.declared.order.Order.{Order}
use Rattle.mb_rules.specs.ReducedBasis.{IsMinimalLeft, LeftsAscend}
use Rattle.mb_rules.specs.RuleList.{cmp_of}
use Rattle.mb_rules.specs.Sides.{RuleSuits, sides}
use Rattle.mb_rules.specs.declared.rule.Rule.{Rule}
use Rattle.mb_tables.specs.Lists.{In}

-- of the minimal left sides among the first k rules each has one kept rule, and no other is kept
pub record IsKeeping
    (matrix : Design) (order : Order) (rules : List rewriting.Rule) (k : ℕ)
    (items : List Rule) : Type 0 where
  pub ascends : LeftsAscend (cmp_of order matrix) (map sides items)
  pub each : (r : rewriting.Rule) → In r (map sides items) → IsKept rules r
  pub all : (i : ℕ) → i < k → IsMinimalLeft rules (left_of rules i) →
      (r : rewriting.Rule) × In r (map sides items) × (r.0 ≡ left_of rules i)
  pub shapes : (r : Rule) → In r items → RuleSuits matrix r
  pub few : length items ≤ k
