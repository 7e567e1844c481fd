-- The reduced basis of a design matrix and an order.
use Rattle.std.specs.Prelude.{List}
use Rattle.mb_matrix.specs.Matrix.{Design}
use Rattle.mb_order.specs.Rewriting.{Rule}
use Rattle.mb_order.specs.Weight.{symbols_of}
use Rattle.mb_order.specs.declared.order.Order.{Order}
use Rattle.mb_rules.specs.ReducedBasis.{IsReduced, LeftsAscend}
use Rattle.mb_rules.specs.RuleList.{cmp_of}

-- the rules from the corners to the least of their classes, all of them and no others, ascending
-- by left side: the reduced Gröbner basis of the toric ideal of (identity | A)
pub record IsReducedBasis (matrix : Design) (order : Order) (rules : List Rule) : Type 0 where
  pub reduced : IsReduced matrix.rows (symbols_of matrix) (cmp_of order matrix) rules
  pub ascending : LeftsAscend (cmp_of order matrix) rules
