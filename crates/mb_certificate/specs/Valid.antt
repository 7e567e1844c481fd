-- Valid certificates: what shows that the moves join any two tables of equal margins.
use Rattle.std.specs.List.{filter, range_with_len}
use Rattle.std.specs.Prelude.{All, Bool, List, Some, [], drop, length, map, negsuc, pos, slice_get, suc, zero, ℕ, ℤ, ◌&&◌, ◌++◌, ◌∷◌, ◌≡◌}
use Rattle.mb_certificate.specs.Certificate.{Certificate, Join, Path, Start}
use Rattle.mb_matrix.specs.Matrix.{Design, IsMove}
use Rattle.mb_order.specs.MarginFree.{margin_free, of_table}
use Rattle.mb_order.specs.Monomial.{Monomial}
use Rattle.mb_order.specs.Order.{monomial_cmp}
use Rattle.mb_order.specs.Peak.{left_of, peak, right_of, shared_pairs, sides_of}
use Rattle.mb_order.specs.Rewriting.{AreValid, LeadsBy, Rule, made}
use Rattle.mb_order.specs.Weight.{IsLight, symbols_of}
use Rattle.mb_order.specs.declared.order.Order.{Order}
use Rattle.mb_tables.specs.Step.{Moved}
use Rattle.mb_tables.specs.Vectors.{unit, zeros}
use Rattle.mb_tables.specs.declared.sign.Sign.TheVariants.{Minus, Plus}

-- two traces lead two monomials to one
abbrev pub TracesMeet : List Rule → List ℕ → Monomial → List ℕ → Monomial → Type 0
TracesMeet rules first a second b =
    (end : Monomial) × LeadsBy rules first a end × LeadsBy rules second b end

-- the margins' symbols that a column counts, with none of the n cells'
abbrev pub of_column : ℕ → List ℕ → Monomial
of_column n column = column ++ zeros n

-- the symbol of a cell
abbrev pub of_cell : Design → ℕ → Monomial
of_cell matrix j = of_table matrix.rows (unit (length matrix.columns) j)

-- (a) the moves: each has margins 0
abbrev pub AreMoves : Design → List (List ℤ) → Type 0
AreMoves matrix moves = All (IsMove matrix) moves

-- (b) the rules: the sides of each have equal weight, and the left side is the larger
abbrev pub AreRules : Design → Order → List Rule → Type 0
AreRules matrix order rules =
    AreValid matrix.rows (symbols_of matrix) (monomial_cmp order matrix.rows) rules

-- (c) the starts: of each cell the traces lead the margins' symbols of its column, and its own
-- symbol, to one monomial
abbrev pub AreStarts : Design → List Rule → List Start → Type 0
AreStarts matrix rules starts =
    (j : ℕ) (column : List ℕ) (start : Start) → slice_get matrix.columns j ≡ Some column →
    slice_get starts j ≡ Some start →
    TracesMeet rules start.margin_steps (of_column (length matrix.columns) column)
    start.cell_steps (of_cell matrix j)

-- the two rules of a join, by number
abbrev pub pair_of : Join → ℕ × ℕ
pair_of join = (join.low, join.high)

-- the peak of two rules is not too heavy, and the traces of a join lead what the rules make of it
-- to one monomial
abbrev pub PeakMeets : Design → List Rule → Join → Rule → Rule → Type 0
PeakMeets matrix rules join low high =
    IsLight matrix (peak low high)
    × TracesMeet rules join.low_steps (made low (peak low high))
    join.high_steps (made high (peak low high))

-- (d) the joins: they are of all pairs of rules whose left sides share a symbol, and each pair
-- meets
pub record AreJoins (matrix : Design) (rules : List Rule) (joins : List Join) : Type 0 where
  pub all : map pair_of joins ≡ shared_pairs rules
  pub meet : All (λ join.
      PeakMeets matrix rules join (sides_of rules join.low) (sides_of rules join.high)) joins

-- neither side of a rule has a symbol of the d margins
abbrev pub is_free : ℕ → List Rule → ℕ → Bool
is_free d rules k = margin_free d (left_of rules k) && margin_free d (right_of rules k)

-- the numbers of the margin-free rules, in order
abbrev pub free_rules : ℕ → List Rule → List ℕ
free_rules d rules = filter (is_free d rules) (range_with_len 0 (length rules))

-- a signed number leads a table to another: that of a move, from 1, above 0 where the move is
-- added and below 0 where it is subtracted
abbrev pub MovesBy : List (List ℤ) → ℤ → List ℕ → List ℕ → Type 0
MovesBy moves (pos zero) u v = ⊥
MovesBy moves (pos (suc k)) u v =
    (move : List ℤ) × (slice_get moves k ≡ Some move) × Moved Plus u move v
MovesBy moves (negsuc k) u v =
    (move : List ℤ) × (slice_get moves k ≡ Some move) × Moved Minus u move v

-- signed numbers, one after the other, lead a table to another; all on the way are tables, so
-- nothing is below 0
unfoldable pub Walks : List (List ℤ) → List ℤ → List ℕ → List ℕ → Type 0
Walks moves [] u v = u ≡ v
Walks moves (step ∷ steps) u v =
    (next : List ℕ) × MovesBy moves step u next × Walks moves steps next v

-- (e) the paths: they are of all margin-free rules, and each leads the table of the left side to
-- that of the right side
pub record ArePaths
    (matrix : Design) (rules : List Rule) (moves : List (List ℤ)) (paths : List Path) : Type 0 where
  pub all : map (λ (path : Path). path.rule) paths ≡ free_rules matrix.rows rules
  pub lead : All (λ (path : Path). Walks moves path.steps
      (drop matrix.rows (left_of rules path.rule)) (drop matrix.rows (right_of rules path.rule)))
      paths

-- a valid certificate
pub record IsValid (c : Certificate) : Type 0 where
  pub moves : AreMoves c.matrix c.moves
  pub rules : AreRules c.matrix c.order c.rules
  pub starts : AreStarts c.matrix c.rules c.starts
  pub joins : AreJoins c.matrix c.rules c.joins
  pub paths : ArePaths c.matrix c.rules c.moves c.paths
