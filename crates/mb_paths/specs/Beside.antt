-- What is answered of moves beside a certificate: the certificate with these moves and the least
-- paths that they have, or what they fail at.
use Rattle.std.specs.Prelude.{All, Err, List, Ok, Result, Some, drop, length, map, slice_get, suc, true, ℕ, ℤ, ◌+◌, ◌<◌, ◌≡◌, ◌≢◌}
use Rattle.mb_certificate.specs.Certificate.{Certificate, Path}
use Rattle.mb_certificate.specs.Valid.{free_rules, is_free}
use Rattle.mb_matrix.specs.Matrix.{Design, IsMove, margins_of}
use Rattle.mb_order.specs.Peak.{left_of, right_of}
use Rattle.mb_paths.specs.Between.{IsApart, IsWithin, PassesLimit}
use Rattle.mb_paths.specs.declared.beside_fault.BesideFault.{BesideFault}
use Rattle.mb_paths.specs.declared.beside_fault.BesideFault.TheVariants.{NotAMove, NotBasis, OutOfMemory, TooLarge, WidthDiffers}
use Rattle.mb_tables.specs.Chain.{Joined}
use Rattle.mb_tables.specs.Rows.{Rows}

-- the table of the left side of a rule
abbrev pub left_table : Certificate → ℕ → List ℕ
left_table c k = drop c.matrix.rows (left_of c.rules k)

-- and that of its right side
abbrev pub right_table : Certificate → ℕ → List ℕ
right_table c k = drop c.matrix.rows (right_of c.rules k)

-- these steps are the path that the moves have for a rule: the least one from the table of its left
-- side to that of its right side, within the limit
abbrev pub IsPathOf : ℕ → Certificate → List (List ℤ) → ℕ → List ℤ → Type 0
IsPathOf limit c moves k steps =
    IsWithin limit c.matrix moves (left_table c k) (right_table c k) steps

-- paths of these rules, in order, each the one that the moves have
pub record AreLeastPaths
    (limit : ℕ) (c : Certificate) (moves : List (List ℤ)) (numbers : List ℕ) (paths : List Path)
    : Type 0 where
  pub all : map (λ (path : Path). path.rule) paths ≡ numbers
  pub each : All (λ (path : Path). IsPathOf limit c moves path.rule path.steps) paths

-- a certificate with these moves, and these paths of the margin-free rules
abbrev pub with_moves : Certificate → List (List ℤ) → List Path → Certificate
with_moves c moves paths = record c { moves = moves; paths = paths }

-- the first of some moves that is none of the matrix has this number, from 1
pub record IsFirstOther (matrix : Design) (moves : List (List ℤ)) (row : ℕ) : Type 0 where
  pub place : ℕ
  pub number : row ≡ suc place
  pub move : List ℤ
  pub there : slice_get moves place ≡ Some move
  pub other : IsMove matrix move → ⊥
  pub before : (k : ℕ) (z : List ℤ) → k < place → slice_get moves k ≡ Some z → IsMove matrix z

-- rule k is margin-free, and the moves have a path for each such rule before it
pub record HasPathsBefore (limit : ℕ) (c : Certificate) (moves : List (List ℤ)) (k : ℕ)
    : Type 0 where
  pub within : k < length c.rules
  pub free : is_free c.matrix.rows c.rules k ≡ true
  pub before : (j : ℕ) → j < k → is_free c.matrix.rows c.rules j ≡ true →
      (steps : List ℤ) × IsPathOf limit c moves j steps

-- the moves have the matrix's width, and each is one of the matrix
pub record AreMovesOf (matrix : Design) (moves : Rows) : Type 0 where
  pub width : moves.width ≡ length matrix.columns
  pub each : All (IsMove matrix) moves.rows

-- the answer; want of memory is free
abbrev pub BesideAnswers : ℕ → Certificate → Rows → Result Certificate BesideFault → Type 0
BesideAnswers limit c moves (Ok new) =
    AreMovesOf c.matrix moves
    × (new ≡ with_moves c moves.rows new.paths)
    × AreLeastPaths limit c moves.rows (free_rules c.matrix.rows c.rules) new.paths
BesideAnswers limit c moves (Err WidthDiffers) = moves.width ≢ length c.matrix.columns
BesideAnswers limit c moves (Err (NotAMove row)) =
    (moves.width ≡ length c.matrix.columns) × IsFirstOther c.matrix moves.rows row
BesideAnswers limit c moves (Err (NotBasis k left right)) =
    AreMovesOf c.matrix moves × HasPathsBefore limit c moves.rows k
    × (left ≡ left_table c k) × (right ≡ right_table c k)
    × IsApart limit c.matrix moves.rows left right
BesideAnswers limit c moves (Err (TooLarge k seen)) =
    AreMovesOf c.matrix moves × HasPathsBefore limit c moves.rows k
    × (seen ≡ limit + 1)
    × PassesLimit limit c.matrix moves.rows (left_table c k) (right_table c k)
BesideAnswers limit c moves (Err OutOfMemory) = Unit {0}

-- tables that show the moves to be no Markov basis: they have equal margins, and no chain joins
-- them
abbrev pub ShowsApart : Design → List (List ℤ) → BesideFault → Type 0
ShowsApart matrix moves (NotBasis k left right) =
    (margins_of matrix left ≡ margins_of matrix right) × (Joined moves left right → ⊥)
ShowsApart matrix moves WidthDiffers = Unit {0}
ShowsApart matrix moves (NotAMove row) = Unit {0}
ShowsApart matrix moves (TooLarge k seen) = Unit {0}
ShowsApart matrix moves OutOfMemory = Unit {0}
