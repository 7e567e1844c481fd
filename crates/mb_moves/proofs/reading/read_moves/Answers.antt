use Rattle.std.proofs.Common.{Ok, ap, ◌*◌, ◌∙◌}
use Rattle.std.proofs.lemmas.Result.{err_from_is_err_and}
use Rattle.mb_tables.specs.Rows.{array_of}
use Rattle.mb_text.specs.Tokens.{tokens}
use Rattle.mb_moves.proofs.ArraySteps.{end_fault, entries_fault, entries_read}
use Rattle.mb_moves.proofs.RowsEndToEnd.{all_rows, array_of-end_to_end, end_to_end}
use Rattle.mb_moves.specs.GridText.{moves_of}
use Rattle.mb_moves.proofs.reading.read_moves.Goals as goal

pub returns-in_err-sizes : goal.returns-in_err-sizes
returns-in_err-sizes c =
    let p = err_from_is_err_and c.from_residual.result c.from_residual.ensures.1 in
    rw (p.1, p.2) c.in_err-sizes.ensures.read

pub returns-in_err-moves : goal.returns-in_err-moves
returns-in_err-moves c =
    let p = err_from_is_err_and c.from_residual-in_err-moves.result
    c.from_residual-in_err-moves.ensures.1 in
    let sizes = c.in_ok-sizes.sizes in
    rw (p.1, p.2)
    (entries_fault (array_of sizes.cols sizes.rows) (moves_of c.args.text.now)
    (sizes.rows * sizes.cols)
    (tokens c.in_ok-sizes.rest.now) c.in_ok-sizes.ensures.read _ c.in_err-moves.ensures.read)

pub returns-in_err-read_end : goal.returns-in_err-read_end
returns-in_err-read_end c =
    let p = err_from_is_err_and c.from_residual-in_err-read_end.result
    c.from_residual-in_err-read_end.ensures.1 in
    let sizes = c.in_ok-sizes.sizes in
    let told = c.in_ok-moves.ensures in
    rw (p.1, p.2)
    (end_fault (array_of sizes.cols sizes.rows) (moves_of c.args.text.now)
    (sizes.rows * sizes.cols)
    (tokens c.in_ok-sizes.rest.now) c.in_ok-sizes.ensures.read
    (end_to_end c.in_ok-moves.moves.rows) (tokens c.in_ok-moves.rest.now)
    (all_rows sizes.rows sizes.cols c.in_ok-moves.moves.rows told.count told.each)
    told.read _ c.in_err-read_end.ensures)

pub returns : goal.returns
returns c =
    let sizes = c.in_ok-sizes.sizes in
    let moves = c.in_ok-moves.moves in
    let told = c.in_ok-moves.ensures in
    entries_read (array_of sizes.cols sizes.rows) (moves_of c.args.text.now)
    (sizes.rows * sizes.cols)
    (tokens c.in_ok-sizes.rest.now) c.in_ok-sizes.ensures.read
    (end_to_end moves.rows) (tokens c.in_ok-moves.rest.now)
    (all_rows sizes.rows sizes.cols moves.rows told.count told.each) told.read
    c.in_ok-read_end.ensures
    ∙ ap Ok (array_of-end_to_end moves sizes.rows sizes.cols told.width told.count told.each)
