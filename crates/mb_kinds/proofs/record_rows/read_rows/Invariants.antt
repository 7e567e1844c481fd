use Rattle.std.proofs.Common.{length, ◌*◌, ◌+◌, ◌-◌, ◌≡◌}
use Rattle.mb_kinds.proofs.RowReading.{with_front}
use Rattle.mb_kinds.specs.RecordText.{rows_in}
use Rattle.mb_text.specs.Lines.{lines}
use Rattle.mb_kinds.proofs.record_rows.read_rows.Given as goal

abbrev pub invariant-loop-row : goal.invariant-loop-row
invariant-loop-row l = record {
  read : with_front l.entries.items
      (rows_in (l.number + l.row) l.cells (l.rows - l.row) (lines l.rest))
      ≡ rows_in l.number l.cells l.rows (lines l.fn.text);
  full : length l.entries.items ≡ l.row * l.cells;
}
