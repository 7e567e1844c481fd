use Rattle.std.proofs.Common.{sym}
use Rattle.std.proofs.lemmas.Result.{err_from_is_err_and}
use Rattle.mb_moves.proofs.EntrySteps.{refused_with}
use Rattle.mb_moves.proofs.ArraySteps.{array_in-count_fault, array_in-none, array_in-one, array_in-sizes, array_in-width_fault}
use Rattle.mb_text.specs.Tokens.{tokens}
use Rattle.mb_moves.proofs.reading.read_sizes.Goals as goal

pub returns-in_default-clause-read : goal.returns-in_default-clause-read
returns-in_default-clause-read c =
    rw c.in_default.ensures (array_in-none c.args.lowest c.args.highest)

pub returns-in_default-next_token-clause-read : goal.returns-in_default-next_token-clause-read
returns-in_default-next_token-clause-read c =
    rw (c.in-Some.ensures, c.in_default-next_token.ensures)
    (array_in-one c.args.lowest c.args.highest _)

pub returns-in_err-rows-clause-read : goal.returns-in_err-rows-clause-read
returns-in_err-rows-clause-read c =
    let p = err_from_is_err_and c.from_residual.result c.from_residual.ensures.1 in
    rw (p.1, p.2, c.in-Some.ensures, c.in-Some-next_token.ensures)
    (refused_with _ _ (array_in-count_fault c.args.lowest c.args.highest c.in-Some.first.now _
    (tokens c.in-Some-next_token.rest.now) _ (sym c.in_err-rows.ensures)))

pub returns-in_err-cols-clause-read : goal.returns-in_err-cols-clause-read
returns-in_err-cols-clause-read c =
    let p = err_from_is_err_and c.from_residual-in_err-cols.result
    c.from_residual-in_err-cols.ensures.1 in
    rw (p.1, p.2, c.in-Some.ensures, c.in-Some-next_token.ensures)
    (refused_with _ _
    (array_in-width_fault c.args.lowest c.args.highest c.in-Some.first.now
    c.in-Some-next_token.second.now (tokens c.in-Some-next_token.rest.now) c.in_ok-rows.rows _
    (sym c.in_ok-rows.ensures) (sym c.in_err-cols.ensures)))

pub returns-clause-read : goal.returns-clause-read
returns-clause-read c =
    rw (c.in-Some.ensures, c.in-Some-next_token.ensures)
    (array_in-sizes c.args.lowest c.args.highest c.in-Some.first.now c.in-Some-next_token.second.now
    (tokens c.in-Some-next_token.rest.now) c.in_ok-rows.rows c.in_ok-cols.cols
    (sym c.in_ok-rows.ensures) (sym c.in_ok-cols.ensures))
