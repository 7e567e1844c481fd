use Rattle.std.proofs.Common.{false, not, ℕ, ◌<◌, ◌==◌, ◌≡◌}
use Rattle.std.specs.List.{count_by}
use Rattle.mb_matrix.specs.Measure.{has_cell}
use Rattle.mb_matrix.proofs.scale_tests.first_uncovered.Given as goal

abbrev pub invariant-loop-cell : goal.invariant-loop-cell
invariant-loop-cell l =
    (k : ℕ) → k < l.cell → not (count_by (has_cell l.matrix k) l.rows == 1) ≡ false
