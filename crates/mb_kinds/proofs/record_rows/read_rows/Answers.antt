use Rattle.std.proofs.Common.{ap, arith, length, length-append, sym, ◌++◌, ◌+◌, ◌-◌, ◌∙◌, ◌≡◌}
use Rattle.mb_kinds.proofs.RowReading.{row_read, row_wrong, rows_read, with_front}
use Rattle.mb_kinds.specs.RecordText.{row_in, rows_in}
use Rattle.mb_tables.proofs.HandedOn.{gives-handed_on, refused_on}
use Rattle.mb_text.specs.Lines.{lines}
use Rattle.mb_text.specs.RecordLines.{record_cause, says}
use Rattle.mb_kinds.proofs.record_rows.read_rows.Goals as goal

pub returns-in_err-entries_of_row-clause-rows : goal.returns-in_err-entries_of_row-clause-rows
returns-in_err-entries_of_row-clause-rows c =
    gives-handed_on record_cause _ _ c.in_err-entries_of_row.field-0.0 _ c.from_residual.ensures.1
    (refused_on (record_cause c.in_err-entries_of_row.field-0.0)
    (says (c.args.number + c.loop-row.row) (row_in c.args.cells) (lines c.loop-row.rest.now))
    (rows_in c.args.number c.args.cells c.args.rows (lines c.args.text.now))
    c.in_err-entries_of_row.ensures.row
    (λ wrong e. sym c.loop-row.invariant.read
    ∙ row_wrong c.loop-row.entries.items (c.args.number + c.loop-row.row) c.args.cells
    (c.args.rows - (c.loop-row.row + 1)) (c.args.rows - c.loop-row.row) (lines c.loop-row.rest.now)
    (omega arith) wrong e))

pub loop-row-preserved : goal.loop-row-preserved
loop-row-preserved c = record {
  read =
      let next : c.args.number + (c.loop-row.row + 1) ≡ c.args.number + c.loop-row.row + 1 =
      omega arith in
      ap (λ entries. with_front entries
      (rows_in (c.args.number + (c.loop-row.row + 1)) c.args.cells
      (c.args.rows - (c.loop-row.row + 1)) (lines c.in_ok-entries_of_row.after.now)))
      (c.in_ok-extend_from_slice.ensures.items
      ∙ ap (λ row. c.loop-row.entries.items ++ row) c.as_slice.ensures.value)
      ∙ ap (λ number. with_front
      (c.loop-row.entries.items ++ c.in_ok-entries_of_row.entries_of_row.items)
      (rows_in number c.args.cells (c.args.rows - (c.loop-row.row + 1))
      (lines c.in_ok-entries_of_row.after.now))) next
      ∙ row_read c.loop-row.entries.items (c.args.number + c.loop-row.row) c.args.cells
      (c.args.rows - (c.loop-row.row + 1)) (c.args.rows - c.loop-row.row)
      (lines c.loop-row.rest.now) (omega arith) c.in_ok-entries_of_row.entries_of_row.items
      (lines c.in_ok-entries_of_row.after.now) c.in_ok-entries_of_row.ensures.row
      ∙ c.loop-row.invariant.read;
  full =
      let whole = c.in_ok-entries_of_row.ensures.whole in
      let before = c.loop-row.invariant.full in
      ap length (c.in_ok-extend_from_slice.ensures.items
      ∙ ap (λ row. c.loop-row.entries.items ++ row) c.as_slice.ensures.value)
      ∙ length-append c.loop-row.entries.items c.in_ok-entries_of_row.entries_of_row.items
      ∙ omega (arith);
}

pub returns-clause-rows : goal.returns-clause-rows
returns-clause-rows c =
    sym c.loop-row.invariant.read
    ∙ rows_read c.loop-row.entries.items (c.args.number + c.loop-row.row) c.args.cells
    (c.args.rows - c.loop-row.row) (lines c.loop-row.rest.now) (omega arith)
