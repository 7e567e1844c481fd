use Rattle.std.proofs.Common.{drop, take, ◌++◌, ◌≡◌, ◌≤◌}
use Rattle.mb_moves.specs.loops.Support.{support}
use Rattle.mb_moves.proofs.kernel.list_support.Given as goal

abbrev pub invariant-loop-cell : goal.invariant-loop-cell
invariant-loop-cell l = record {
  few : l.count ≤ l.cell;
  listed : take l.count l.cells ++ support l.cell (drop l.cell l.move_entries)
      ≡ support 0 l.move_entries;
}
