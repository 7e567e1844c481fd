-- A certificate as the program holds it: each rule as two monomials.
use Rattle.std.specs.Prelude.{All, List, length, map, ◌≡◌}
use Rattle.mb_matrix.specs.Matrix.{Design}
use Rattle.mb_order.specs.Rewriting.{Rule}
use Rattle.mb_order.specs.Weight.{Suits}
use Rattle.mb_order.specs.declared.order.Order.{Order}
use Rattle.mb_tables.specs.Rows.{Rows}
use Rattle.mb_certificate.specs.Certificate.{AreParts, Certificate, Join, Path, Start}
use Rattle.mb_certificate.specs.declared.parts.Pair.{Pair}

-- both sides of a rule
abbrev pub sides : Pair → Rule
sides pair = (pair.left.list, pair.right.list)

-- both sides have the matrix's shape
pub record PairSuits (matrix : Design) (pair : Pair) : Type 0 where
  pub left : Suits matrix pair.left
  pub right : Suits matrix pair.right

-- the certificate of these parts
abbrev pub parts_of :
    Design → Order → Rows → List Pair → List Start → List Join → List Path → Certificate
parts_of matrix order moves rules starts joins paths =
    record {
      matrix = matrix;
      order = order;
      moves = moves.rows;
      rules = map sides rules;
      starts = starts;
      joins = joins;
      paths = paths;
    }

-- they are the parts of one, and moves and rules are of the matrix's shape
pub record AreHeld
    (matrix : Design) (order : Order) (moves : Rows) (rules : List Pair) (starts : List Start)
    (joins : List Join) (paths : List Path) : Type 0 where
  pub parts : AreParts (parts_of matrix order moves rules starts joins paths)
  pub width : moves.width ≡ length matrix.columns
  pub shape : All (PairSuits matrix) rules
