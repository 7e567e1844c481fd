-- The certificate that is made of rules which complete a design matrix.
use Rattle.std.specs.Prelude.{All, List, Some, [], drop, length, map, negsuc, pos, slice_get, suc, ℕ, ℤ, ◌-ℤ◌, ◌∷◌, ◌≡◌}
use Rattle.mb_certificate.specs.Certificate.{Join, Path, Start}
use Rattle.mb_certificate.specs.Valid.{free_rules, of_cell, of_column, pair_of}
use Rattle.mb_matrix.specs.Matrix.{Design, column_at}
use Rattle.mb_order.specs.Monomial.{Monomial}
use Rattle.mb_order.specs.Peak.{peak, shared_pairs, sides_of}
use Rattle.mb_order.specs.Rewriting.{Rule, made}
use Rattle.mb_rules.specs.NormalForm.{NormalBy}

-- the difference of two vectors of numbers, place by place
unfoldable pub difference : List ℕ → List ℕ → List ℤ
difference [] v = []
difference (x ∷ u) [] = []
difference (x ∷ u) (y ∷ v) = (pos x -ℤ pos y) ∷ difference u v

-- the move of a rule: the difference of its sides in the cells' symbols
abbrev pub move_of : ℕ → Rule → List ℤ
move_of d rule = difference (drop d rule.0) (drop d rule.1)

-- the moves of the rules with these numbers
abbrev pub moves_among : ℕ → List Rule → List ℕ → List (List ℤ)
moves_among d rules numbers = map (λ k. move_of d (sides_of rules k)) numbers

-- the moves of the margin-free rules, in their order
abbrev pub moves_of : ℕ → List Rule → List (List ℤ)
moves_of d rules = moves_among d rules (free_rules d rules)

-- the path of one step that subtracts the move of this number, from 0
abbrev pub path_of : ℕ → ℕ → Path
path_of number rule = record { rule = rule; steps = negsuc number ∷ [] }

-- such a path for each of some rules, whose moves are numbered from this one on
unfoldable pub paths_from : ℕ → List ℕ → List Path
paths_from number [] = []
paths_from number (rule ∷ rules) = path_of number rule ∷ paths_from (suc number) rules

-- the paths of the margin-free rules, in their order: each subtracts the rule's own move
abbrev pub paths_of : ℕ → List Rule → List Path
paths_of d rules = paths_from 0 (free_rules d rules)

-- these rules, each the first that fits, lead a monomial to its normal form
abbrev pub IsNormalTrace : List Rule → List ℕ → Monomial → Type 0
IsNormalTrace rules trace m = (form : Monomial) × NormalBy rules trace m form

-- the start at a cell has the traces of normal forms
pub record IsNormalStart (matrix : Design) (rules : List Rule) (j : ℕ) (start : Start) :
    Type 0 where
  pub margin : IsNormalTrace rules start.margin_steps
      (of_column (length matrix.columns) (column_at matrix j))
  pub cell : IsNormalTrace rules start.cell_steps (of_cell matrix j)

-- there is one start a cell, in order, with the traces of normal forms
pub record AreNormalStarts (matrix : Design) (rules : List Rule) (starts : List Start) :
    Type 0 where
  pub each_cell : length starts ≡ length matrix.columns
  pub normal : (j : ℕ) (start : Start) → slice_get starts j ≡ Some start →
      IsNormalStart matrix rules j start

-- the join of two rules has the traces of the normal forms of what they make of their peak
abbrev pub PeakIsNormal : List Rule → Join → Rule → Rule → Type 0
PeakIsNormal rules join low high =
    IsNormalTrace rules join.low_steps (made low (peak low high))
    × IsNormalTrace rules join.high_steps (made high (peak low high))

-- so has a join of its two rules
abbrev pub IsNormalJoin : List Rule → Join → Type 0
IsNormalJoin rules join =
    PeakIsNormal rules join (sides_of rules join.low) (sides_of rules join.high)

-- there is one join for each pair of rules whose left sides share a symbol, in order, with the
-- traces of normal forms
pub record AreNormalJoins (rules : List Rule) (joins : List Join) : Type 0 where
  pub all : map pair_of joins ≡ shared_pairs rules
  pub normal : All (IsNormalJoin rules) joins
