use Rattle.std.proofs.Common.{false, get_or, ℕ, ◌<◌, ◌≡◌}
use Rattle.mb_matrix.specs.Measure.{has_cell}
use Rattle.mb_matrix.proofs.measure.group_in.Given as goal

abbrev pub invariant-loop-place : goal.invariant-loop-place
invariant-loop-place l =
    (k : ℕ) → k < l.place → has_cell l.matrix l.cell (get_or l.rows k 0) ≡ false
