use Rattle.std.proofs.Common.{Ok, ap, arith, refl, sym, ◌∙◌}
use Rattle.std.proofs.lemmas.Result.{err_from_is_err_and}
use Rattle.mb_moves.proofs.EntrySteps.{refused_on}
use Rattle.mb_moves.proofs.TestedTexts.{text_fault, text_moves, text_not_a_move, text_wide}
use Rattle.mb_moves.specs.GridText.{moves_of}
use Rattle.mb_tables.specs.Rows.{rows_of}
use Rattle.mb_moves.specs.Testing.{first_wrong, tested_text}
use Rattle.mb_text.specs.Tokens.{tokens}
use Rattle.mb_moves.proofs.testing.test_moves.Goals as goal

pub returns-in_err-sizes : goal.returns-in_err-sizes
returns-in_err-sizes c =
    let p = err_from_is_err_and c.from_residual.result c.from_residual.ensures.1 in
    let text = c.args.text.now in
    rw (p.1, p.2) (refused_on _ (moves_of text) (tested_text c.args.grid.now text)
    c.in_err-sizes.ensures.read (λ fault e. rw e refl))

pub returns-in_err-check_entries : goal.returns-in_err-check_entries
returns-in_err-check_entries c =
    let residual = c.from_residual-in_err-check_entries in
    let p = err_from_is_err_and residual.result residual.ensures.1 in
    let sizes = c.in_ok-sizes.sizes in
    rw (p.1, p.2)
    (text_fault c.args.grid.now c.args.text.now sizes.rows sizes.cols
    (tokens c.in_ok-sizes.rest.now) c.in_ok-sizes.ensures.read (λ entries. tt) _
    c.in_err-check_entries.ensures)

pub returns-then-sizes-width : goal.returns-then-sizes-width
returns-then-sizes-width c =
    let sizes = c.in_ok-sizes.sizes in
    text_wide c.args.grid.now c.args.text.now sizes.rows sizes.cols
    (tokens c.in_ok-sizes.rest.now) c.in_ok-sizes.ensures.read
    (λ e. c.if-sizes-width.true (sym e ∙ sym c.width.ensures.width)) c.in_ok-check_entries.ensures

pub returns-in_err-first_wrong_row : goal.returns-in_err-first_wrong_row
returns-in_err-first_wrong_row c =
    let residual = c.from_residual-in_err-first_wrong_row in
    let p = err_from_is_err_and residual.result residual.ensures.1 in
    let sizes = c.in_ok-sizes.sizes in
    rw (p.1, p.2)
    (text_fault c.args.grid.now c.args.text.now sizes.rows sizes.cols
    (tokens c.in_ok-sizes.rest.now) c.in_ok-sizes.ensures.read
    (λ entries. first_wrong c.args.grid.now.rows 1 (rows_of sizes.cols sizes.rows entries)) _
    c.in_err-first_wrong_row.ensures)

pub returns-in-None : goal.returns-in-None
returns-in-None c =
    let sizes = c.in_ok-sizes.sizes in
    text_moves c.args.grid.now c.args.text.now sizes.rows sizes.cols
    (tokens c.in_ok-sizes.rest.now) c.in_ok-sizes.ensures.read
    (omega arith) (c.in_ok-first_wrong_row.ensures ∙ ap Ok c.in-None.is)

pub returns-in-Some : goal.returns-in-Some
returns-in-Some c =
    let sizes = c.in_ok-sizes.sizes in
    text_not_a_move c.args.grid.now c.args.text.now sizes.rows sizes.cols
    (tokens c.in_ok-sizes.rest.now) c.in_ok-sizes.ensures.read
    (omega arith) c.in-Some.row
    (c.in_ok-first_wrong_row.ensures ∙ ap Ok c.in-Some.is)
