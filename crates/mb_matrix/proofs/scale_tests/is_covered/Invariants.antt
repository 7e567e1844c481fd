use Rattle.std.proofs.Common.{take, ◌≡◌, ◌≤◌}
use Rattle.std.specs.List.{count_by}
use Rattle.mb_matrix.specs.Measure.{has_cell}
use Rattle.mb_matrix.proofs.scale_tests.is_covered.Given as goal

abbrev pub invariant-loop-n : goal.invariant-loop-n
invariant-loop-n l = record {
  so_far : l.count ≡ count_by (has_cell l.matrix l.cell) (take l.n-index l.rows);
  few : l.count ≤ l.n-index;
}
