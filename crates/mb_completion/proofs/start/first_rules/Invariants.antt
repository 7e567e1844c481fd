use Rattle.std.proofs.Common.{drop, length, ◌++◌, ◌≡◌}
use Rattle.mb_completion.proofs.start.first_rules.Given as goal
use Rattle.mb_completion.specs.Start.{births, births_from}

abbrev pub invariant-loop-cell : goal.invariant-loop-cell
invariant-loop-cell l = record {
  so_far : l.rules.rules ++ births_from l.matrix.rows (length l.matrix.columns) l.cell
      (drop l.cell l.matrix.columns) ≡ births l.matrix.rows l.matrix.columns;
  long : length l.rules.rules ≡ l.cell;
  matrix : l.rules.matrix ≡ l.matrix;
  order : l.rules.order ≡ l.fn.order;
}
