-- The laws of the peel, of keys and of ranks.
use Rattle.std.specs.Cmp.Lexicographic.{slice_cmp}
use Rattle.std.specs.Ordering.{nat_cmp}
use Rattle.std.specs.Prelude.{List, length, ℕ, ◌<◌, ◌↔◌, ◌≡◌, ◌≤◌}
use Rattle.std.specs.declared.cmp.Ordering.TheVariants.{Less}
use Rattle.mb_matrix.specs.Key.{Suits, digits_of, key_count, key_of, rank_of}
use Rattle.mb_matrix.specs.Matrix.{Design, IsDesign, margins_of}
use Rattle.mb_matrix.specs.Peel.{IsTriangular, Rises, free_cells, peel_of, peeled_cells}
use Rattle.mb_matrix.specs.declared.digit.Digit.{Digit}
use Rattle.mb_tables.specs.Lists.{In}
use Rattle.mb_tables.specs.Vectors.{at}

-- the peel is triangular, each cell of the matrix has a step of it, and free cells ascend
pub record IsPeel (matrix : Design) : Type 0 where
  pub triangular : IsTriangular matrix (peel_of matrix)
  pub whole : (cell : ℕ) → (cell < length matrix.columns) ↔ In cell (peeled_cells (peel_of matrix))
  pub rises : Rises (free_cells matrix)

-- the peel of each matrix is such
abbrev pub PeelIsTriangular : Type 0
PeelIsTriangular = (matrix : Design) → IsPeel matrix

-- triangular determination: tables of the same margins with the same free cells are equal
abbrev pub FreeCellsDetermine : Type 0
FreeCellsDetermine =
    (matrix : Design) → IsDesign matrix →
    (u v : List ℕ) → length u ≡ length matrix.columns → length v ≡ length matrix.columns →
    margins_of matrix u ≡ margins_of matrix v →
    ((cell : ℕ) → In cell (free_cells matrix) → at u cell ≡ at v cell) → u ≡ v

-- a table suits the digits of its margins: it counts at a free cell no more than the bound
abbrev pub TablesSuitKeys : Type 0
TablesSuitKeys =
    (matrix : Design) → IsDesign matrix → (u : List ℕ) → length u ≡ length matrix.columns →
    Suits (digits_of matrix (margins_of matrix u)) u

-- a key is not 0, and at most the product of bound + 1; a rank is below it
abbrev pub KeysAreBounded : Type 0
KeysAreBounded =
    (digits : List Digit) (u : List ℕ) → Suits digits u →
    (1 ≤ key_of digits u) × (key_of digits u ≤ key_count digits)
    × (rank_of digits u < key_count digits)

-- distinct tables of one fiber have distinct keys
abbrev pub KeysAreDistinct : Type 0
KeysAreDistinct =
    (matrix : Design) → IsDesign matrix → (margins : List ℕ) →
    (u v : List ℕ) → length u ≡ length matrix.columns → length v ≡ length matrix.columns →
    margins_of matrix u ≡ margins → margins_of matrix v ≡ margins →
    key_of (digits_of matrix margins) u ≡ key_of (digits_of matrix margins) v → u ≡ v

-- of two tables of one fiber the one of lower rank comes first
abbrev pub RanksAscend : Type 0
RanksAscend =
    (matrix : Design) → IsDesign matrix → (margins : List ℕ) →
    (u v : List ℕ) → length u ≡ length matrix.columns → length v ≡ length matrix.columns →
    margins_of matrix u ≡ margins → margins_of matrix v ≡ margins →
    (slice_cmp nat_cmp u v ≡ Less)
    ↔ (rank_of (digits_of matrix margins) u < rank_of (digits_of matrix margins) v)
