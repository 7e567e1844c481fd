use Rattle.std.proofs.Common.{List, Some, slice_get, ℕ, ℤ, ◌<◌, ◌≡◌}
use Rattle.mb_matrix.specs.Matrix.{IsMove}
use Rattle.mb_paths.proofs.beside_moves.first_other.Given as goal

abbrev pub invariant-loop-k : goal.invariant-loop-k
invariant-loop-k l =
    (k : ℕ) (z : List ℤ) → k < l.k → slice_get l.moves.rows k ≡ Some z → IsMove l.matrix z
