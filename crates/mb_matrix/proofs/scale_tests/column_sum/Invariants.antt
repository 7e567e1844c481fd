use Rattle.std.proofs.Common.{sum, take, ◌*◌, ◌≡◌, ◌≤◌}
use Rattle.mb_matrix.specs.Matrix.{column_at}
use Rattle.mb_matrix.proofs.scale_tests.column_sum.Given as goal

abbrev pub invariant-loop-row : goal.invariant-loop-row
invariant-loop-row l = record {
  so_far : l.sum ≡ sum (take l.row (column_at l.matrix l.cell));
  small : l.sum ≤ 1000 * l.row;
}
