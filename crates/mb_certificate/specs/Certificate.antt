-- Certificates that a list of moves is a Markov basis: what they list, and in which shapes.
use Rattle.std.specs.Int.RustNames.{unsigned_abs}
use Rattle.std.specs.Prelude.{All, List, length, pos, ℕ, ℤ, ◌+◌, ◌<◌, ◌≡◌, ◌≢◌, ◌≤◌, ◌^◌}
use Rattle.mb_matrix.specs.Matrix.{Design, IsDesign}
use Rattle.mb_order.specs.Limits.{largest_exponent}
use Rattle.mb_order.specs.Monomial.{Monomial}
use Rattle.mb_order.specs.Rewriting.{Rule}
use Rattle.mb_order.specs.declared.order.Order.{Order}
use Rattle.mb_tables.specs.Limits.{most_moves}
use Rattle.mb_tables.specs.Rows.{AreRows}

-- the start at a cell: the rules that lead the monomial of the cell's column, and those that lead
-- the symbol of the cell, to one monomial
pub record Start : Type 0 where
  pub margin_steps : List ℕ
  pub cell_steps : List ℕ

-- the join of a pair of rules: the rules that lead what each of the two makes of their peak to one
-- monomial
pub record Join : Type 0 where
  pub low : ℕ
  pub high : ℕ
  pub low_steps : List ℕ
  pub high_steps : List ℕ

-- the path of a rule: the moves that lead the table of its left side to that of its right side. A
-- number above 0 adds that move, one below 0 subtracts it, and moves are numbered from 1
pub record Path : Type 0 where
  pub rule : ℕ
  pub steps : List ℤ

-- a matrix, an order of monomials, moves, and rules; and a start for each cell, a join for each
-- pair of rules, and a path for each rule without symbols of margins. Rules are numbered from 0
pub record Certificate : Type 0 where
  pub matrix : Design
  pub order : Order
  pub moves : List (List ℤ)
  pub rules : List Rule
  pub starts : List Start
  pub joins : List Join
  pub paths : List Path

-- rule numbers: each is below 2^32
abbrev pub AreNumbers : List ℕ → Type 0
AreNumbers numbers = All (λ k. k < 2 ^ 32) numbers

-- the number of a move with a sign: it isn't 0, and its size is below 2^32
pub record IsSigned (z : ℤ) : Type 0 where
  pub some : z ≢ pos 0
  pub fits : unsigned_abs z < 2 ^ 32

-- a side of a rule: a monomial of the matrix, of exponents up to 65,535
pub record IsSide (matrix : Design) (side : Monomial) : Type 0 where
  pub symbols : length side ≡ matrix.rows + length matrix.columns
  pub small : All (λ exponent. exponent ≤ largest_exponent) side

-- both sides of a rule are
pub record AreSides (matrix : Design) (rule : Rule) : Type 0 where
  pub left : IsSide matrix rule.0
  pub right : IsSide matrix rule.1

-- two lists of rule numbers, each of fewer than 2^64
pub record AreTraces (first second : List ℕ) : Type 0 where
  pub first_numbers : AreNumbers first
  pub second_numbers : AreNumbers second
  pub first_short : length first < 2 ^ 64
  pub second_short : length second < 2 ^ 64

-- a start is of rule numbers
abbrev pub IsStart : Start → Type 0
IsStart start = AreTraces start.margin_steps start.cell_steps

-- so is a join
pub record IsJoin (join : Join) : Type 0 where
  pub low_fits : join.low < 2 ^ 32
  pub high_fits : join.high < 2 ^ 32
  pub traces : AreTraces join.low_steps join.high_steps

-- a path is of a rule number and fewer than 2^64 moves with signs
pub record IsPath (path : Path) : Type 0 where
  pub rule_fits : path.rule < 2 ^ 32
  pub signed : All IsSigned path.steps
  pub short : length path.steps < 2 ^ 64

-- the parts of a certificate have the shapes and ranges that its text can say; what they list can
-- still be wrong. There are at most 1,000,064 moves and as many rules
pub record AreParts (c : Certificate) : Type 0 where
  pub design : IsDesign c.matrix
  pub moves : AreRows 0 most_moves (record { width = length c.matrix.columns; rows = c.moves })
  pub rules : All (AreSides c.matrix) c.rules
  pub few_rules : length c.rules ≤ most_moves
  pub starts : All IsStart c.starts
  pub each_cell : length c.starts ≡ length c.matrix.columns
  pub joins : All IsJoin c.joins
  pub few_joins : length c.joins < 2 ^ 40
  pub paths : All IsPath c.paths
  pub few_paths : length c.paths < 2 ^ 32
