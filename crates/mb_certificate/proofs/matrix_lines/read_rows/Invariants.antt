use Rattle.std.proofs.Common.{length, ◌*◌, ◌-◌, ◌≡◌}
use Rattle.mb_certificate.proofs.Repeats.{with_front}
use Rattle.mb_certificate.specs.CertificateText.{row_in}
use Rattle.mb_certificate.specs.Reading.{says, times}
use Rattle.mb_tables.specs.Rows.{rows_of}
use Rattle.mb_certificate.proofs.matrix_lines.read_rows.Given as goal

abbrev pub invariant-loop : goal.invariant-loop
invariant-loop l = record {
  read : with_front (rows_of l.cells l.counter l.entries.items)
      (times (says (row_in l.cells)) (l.rows - l.counter) l.lines)
      ≡ times (says (row_in l.cells)) l.rows l.fn.lines;
  full : length l.entries.items ≡ l.counter * l.cells;
}
