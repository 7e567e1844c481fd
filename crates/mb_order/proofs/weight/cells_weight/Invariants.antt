use Rattle.std.proofs.Common.{drop, ◌*◌, ◌+◌, ◌^◌, ◌≡◌, ◌≤◌}
use Rattle.mb_order.proofs.weight.cells_weight.Given as goal
use Rattle.mb_tables.specs.Margin.{margin}

abbrev pub invariant-loop-cell : goal.invariant-loop-cell
invariant-loop-cell l = record {
  so_far : l.sum + margin (drop l.cell l.row) (drop l.cell l.cells) ≡ margin l.row l.cells;
  small : l.sum ≤ 2 ^ 32 * l.cell;
}
