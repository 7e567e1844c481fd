use Rattle.std.proofs.Common.{All, drop, length, ◌++◌, ◌+◌, ◌≡◌}
use Rattle.mb_completion.proofs.moves.differences.Given as goal
use Rattle.mb_completion.specs.Made.{difference}
use Rattle.mb_tables.specs.Entries.{IsEntry}

abbrev pub invariant-loop-cell : goal.invariant-loop-cell
invariant-loop-cell l = record {
  so_far : l.entries.items ++ difference (drop (l.left.margins + l.cell) l.left.list)
      (drop (l.left.margins + l.cell) l.right.list)
      ≡ difference (drop l.left.margins l.left.list) (drop l.left.margins l.right.list);
  long : length l.entries.items ≡ l.cell;
  each : All IsEntry l.entries.items;
}
