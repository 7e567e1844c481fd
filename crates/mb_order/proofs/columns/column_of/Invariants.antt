use Rattle.std.proofs.Common.{length, ℕ, ◌<◌, ◌≡◌}
use Rattle.mb_order.proofs.columns.column_of.Given as goal
use Rattle.mb_matrix.specs.Matrix.{column_at}
use Rattle.mb_tables.specs.Vectors.{at}

abbrev pub invariant-loop-row : goal.invariant-loop-row
invariant-loop-row l = record {
  long : length l.column.items ≡ l.row;
  each : (i : ℕ) → i < l.row → at l.column.items i ≡ at (column_at l.matrix l.cell) i;
}
