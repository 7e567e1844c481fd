use Rattle.std.proofs.Common.{drop, neg_ℤ, pos, ◌*◌, ◌+ℤ◌, ◌^◌, ◌≡◌, ◌≤ℤ◌}
use Rattle.mb_moves.specs.loops.Support.{cells_margin}
use Rattle.mb_moves.proofs.kernel.support_margin.Given as goal

abbrev pub invariant-loop-cell : goal.invariant-loop-cell
invariant-loop-cell l = record {
  total : l.sum +ℤ cells_margin l.row l.move_entries (drop l.cell-index l.cells)
      ≡ cells_margin l.row l.move_entries l.cells;
  low : neg_ℤ (pos (2 ^ 62 * l.cell-index)) ≤ℤ l.sum;
  high : l.sum ≤ℤ pos (2 ^ 62 * l.cell-index);
}
