use Rattle.std.proofs.Common.{false, not, sum, ℕ, ◌<◌, ◌==◌, ◌≡◌}
use Rattle.mb_matrix.specs.Matrix.{column_at}
use Rattle.mb_matrix.proofs.scale_tests.first_uneven.Given as goal

abbrev pub invariant-loop-cell : goal.invariant-loop-cell
invariant-loop-cell l =
    (k : ℕ) → k < l.cell →
    not (sum (column_at l.matrix k) == sum (column_at l.matrix 0)) ≡ false
