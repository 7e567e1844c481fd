use Rattle.std.proofs.Common.{List, Some, slice_get, ℕ, ℤ, ◌<◌, ◌≡◌}
use Rattle.mb_matrix.specs.Matrix.{IsMove}
use Rattle.mb_samples.proofs.samples.are_moves.Given as goal

abbrev pub invariant-loop-k : goal.invariant-loop-k
invariant-loop-k l =
    (k : ℕ) (z : List ℤ) → k < l._k → slice_get l.moves.rows k ≡ Some z → IsMove l.matrix z
