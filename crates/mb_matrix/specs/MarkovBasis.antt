-- Markov bases (Diaconis and Sturmfels 1998).
use Rattle.std.specs.Prelude.{All, List, length, ℕ, ℤ, ◌≡◌}
use Rattle.mb_matrix.specs.Matrix.{Design, IsMove, margins_of}
use Rattle.mb_tables.specs.Chain.{Joined}

-- moves of the matrix that join any two tables of its cells with equal margins
pub record IsMarkovBasis (matrix : Design) (moves : List (List ℤ)) : Type 0 where
  pub kept : All (IsMove matrix) moves
  pub joins : (u v : List ℕ) → length u ≡ length matrix.columns →
      length v ≡ length matrix.columns → margins_of matrix u ≡ margins_of matrix v →
      Joined moves u v
