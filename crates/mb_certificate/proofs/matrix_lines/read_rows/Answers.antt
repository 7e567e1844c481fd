use Rattle.std.proofs.Common.{Ok, ap, arith, length, ◌++◌, ◌+◌, ◌-◌, ◌∙◌, ◌≡◌}
use Rattle.mb_tables.proofs.HandedOn.{gives-handed_on}
use Rattle.mb_tables.specs.Rows.{rows_of}
use Rattle.mb_certificate.proofs.MoreRows.{full_on, rows_on}
use Rattle.mb_certificate.proofs.Repeats.{all_read, no_front, one_more, one_wrong}
use Rattle.mb_certificate.specs.CertificateText.{read_cause, row_in}
use Rattle.mb_certificate.specs.Reading.{says, times}
use Rattle.mb_certificate.proofs.matrix_lines.read_rows.Goals as goal

pub returns-in_err-row-clause-rows : goal.returns-in_err-row-clause-rows
returns-in_err-row-clause-rows c =
    let step = says (row_in c.args.cells) in
    gives-handed_on read_cause _ _ c.in_err-row.field-0.0 _ c.from_residual.ensures.1
    (one_wrong step (rows_of c.args.cells c.loop.counter c.loop.entries.items) c.args.rows
    c.loop.counter c.loop.lines (times step c.args.rows c.args.lines.now)
    c.loop.invariant.read (read_cause c.in_err-row.field-0.0) c.loop-test.true
    c.in_err-row.ensures.row)

pub loop-init : goal.loop-init
unfolding rows_of
loop-init c =
    let step = says (row_in c.args.cells) in
    let all : c.args.rows - 0 ≡ c.args.rows = omega arith in
    record {
      read =
          no_front (times step (c.args.rows - 0) c.args.lines.now)
          ∙ ap (λ n. times step n c.args.lines.now) all;
      full = ap length c.new-entries.ensures.items ∙ omega arith;
    }

pub loop-preserved : goal.loop-preserved
loop-preserved c =
    let step = says (row_in c.args.cells) in
    let list = c.extend_from_slice.new.self.items in
    let more =
    c.in_ok-extend_from_slice.ensures.items
    ∙ ap (λ row. c.loop.entries.items ++ row) c.as_slice.ensures.value in
    record {
      read =
          one_more step (rows_of c.args.cells c.loop.counter c.loop.entries.items) c.args.rows
          c.loop.counter c.loop.lines (times step c.args.rows c.args.lines.now)
          c.loop.invariant.read (rows_of c.args.cells (c.loop.counter + 1) list)
          c.in_ok-row.row.items c.read_row.new.lines c.loop-test.true c.in_ok-row.ensures.row
          (rows_on c.args.cells c.loop.counter c.loop.entries.items c.in_ok-row.row.items list
          c.loop.invariant.full c.in_ok-row.ensures.whole more);
      full =
          full_on c.args.cells c.loop.counter c.loop.entries.items c.in_ok-row.row.items list
          c.loop.invariant.full c.in_ok-row.ensures.whole more;
    }

pub returns-clause-rows : goal.returns-clause-rows
returns-clause-rows c =
    let step = says (row_in c.args.cells) in
    let all : c.loop.counter ≡ c.args.rows =
    let upper = c.loop.auto.counter-end in omega arith in
    all_read step (rows_of c.args.cells c.loop.counter c.loop.entries.items) c.args.rows
    c.loop.counter c.loop.lines (times step c.args.rows c.args.lines.now) c.loop.invariant.read
    c.loop-test.false
    ∙ ap (λ n. Ok (rows_of c.args.cells n c.loop.entries.items, c.loop.lines)) all
