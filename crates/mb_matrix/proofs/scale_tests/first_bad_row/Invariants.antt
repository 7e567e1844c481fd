use Rattle.std.proofs.Common.{false, get_or, not, ℕ, ◌<◌, ◌≡◌}
use Rattle.mb_matrix.specs.Measure.{is_group_row}
use Rattle.mb_matrix.proofs.scale_tests.first_bad_row.Given as goal

abbrev pub invariant-loop-n : goal.invariant-loop-n
invariant-loop-n l =
    (k : ℕ) → k < l.n-index → not (is_group_row l.matrix (get_or l.rows k 0)) ≡ false
