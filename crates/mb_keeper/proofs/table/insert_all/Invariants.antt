use Rattle.std.proofs.Common.{take, ◌≡◌}
use Rattle.std.specs.FinMap.{empty}
use Rattle.mb_outside.specs.Rows.{rows_of}
use Rattle.sqlite.specs.Held.{state}
use Rattle.mb_keeper.specs.Effects.{IsWithin}
use Rattle.mb_keeper.specs.Known.{Holds}
use Rattle.mb_keeper.proofs.table.insert_all.Given as goal

-- the rows so far were added
abbrev pub invariant-loop-row : goal.invariant-loop-row
invariant-loop-row g l = record {
  same : l.transaction.conn.ghost_name ≡ l.fn.transaction.conn.ghost_name;
  within : IsWithin (state g.S.Store l.fn.transaction.conn.now)
      (state g.S.Store l.transaction.conn.now);
  added : Holds (state g.S.Store l.fn.transaction.conn.now) empty
      → Holds (state g.S.Store l.transaction.conn.now) (rows_of (take l.row-index l.rows));
}
