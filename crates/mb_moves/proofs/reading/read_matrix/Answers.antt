use Rattle.std.proofs.Common.{◌*◌}
use Rattle.std.proofs.lemmas.Result.{err_from_is_err_and}
use Rattle.mb_tables.specs.Limits.{most_cells}
use Rattle.mb_tables.specs.Rows.{array_of}
use Rattle.mb_text.specs.Tokens.{tokens}
use Rattle.mb_moves.proofs.ArraySteps.{end_fault, entries_fault, entries_read}
use Rattle.mb_moves.proofs.RowsEndToEnd.{rows_made}
use Rattle.mb_moves.specs.GridText.{matrix_of}
use Rattle.mb_moves.proofs.reading.read_matrix.Goals as goal

pub returns-in_err-sizes : goal.returns-in_err-sizes
returns-in_err-sizes c =
    let p = err_from_is_err_and c.from_residual.result c.from_residual.ensures.1 in
    rw (p.1, p.2) c.in_err-sizes.ensures.read

pub returns-in_err-entries : goal.returns-in_err-entries
returns-in_err-entries c =
    let p = err_from_is_err_and c.from_residual-in_err-entries.result
    c.from_residual-in_err-entries.ensures.1 in
    let sizes = c.in_ok-sizes.sizes in
    rw (p.1, p.2)
    (entries_fault (array_of sizes.cols sizes.rows) (matrix_of c.args.text.now)
    (sizes.rows * sizes.cols)
    (tokens c.in_ok-sizes.rest.now) c.in_ok-sizes.ensures.read _ c.in_err-entries.ensures.read)

pub returns-in_err-read_end : goal.returns-in_err-read_end
returns-in_err-read_end c =
    let p = err_from_is_err_and c.from_residual-in_err-read_end.result
    c.from_residual-in_err-read_end.ensures.1 in
    let sizes = c.in_ok-sizes.sizes in
    rw (p.1, p.2)
    (end_fault (array_of sizes.cols sizes.rows) (matrix_of c.args.text.now)
    (sizes.rows * sizes.cols)
    (tokens c.in_ok-sizes.rest.now) c.in_ok-sizes.ensures.read c.in_ok-entries.entries.items
    (tokens c.in_ok-entries.rest.now) c.in_ok-entries.ensures.count c.in_ok-entries.ensures.read _
    c.in_err-read_end.ensures)

pub from_entries-requires : goal.from_entries-requires
from_entries-requires c =
    let sizes = c.in_ok-sizes.ensures in
    let full = c.in_ok-entries.ensures.count in
    record {
      array = rows_made 1 most_cells c.in_ok-sizes.sizes.cols c.in_ok-sizes.sizes.rows
          c.in_ok-entries.entries.items sizes.some_rows sizes.few_rows sizes.some_cols
          sizes.few_cols full c.in_ok-entries.ensures.sound;
      full = full;
    }

pub returns : goal.returns
returns c =
    let sizes = c.in_ok-sizes.sizes in
    rw c.from_entries.ensures
    (entries_read (array_of sizes.cols sizes.rows) (matrix_of c.args.text.now)
    (sizes.rows * sizes.cols)
    (tokens c.in_ok-sizes.rest.now) c.in_ok-sizes.ensures.read c.in_ok-entries.entries.items
    (tokens c.in_ok-entries.rest.now) c.in_ok-entries.ensures.count c.in_ok-entries.ensures.read
    c.in_ok-read_end.ensures)
