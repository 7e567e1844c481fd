use Rattle.std.proofs.Common.{arith, rules, sym, ◌≢◌}
use Rattle.std.proofs.lemmas.Result.{err_from_is_err_and}
use Rattle.std.proofs.lemmas.Int.{to_z-of_z}
use mir.Syntax.{w32}
use mir.Val.{SFits}
use Rattle.mb_text.specs.Tokens.{tokens}
use Rattle.mb_moves.proofs.EntrySteps.{entries_after-entry, entries_after-fault, entries_after-few, refused_with}
use Rattle.mb_moves.proofs.entries.read_entry.Goals as goal

pub returns-in-None-clause-read : goal.returns-in-None-clause-read
returns-in-None-clause-read c =
    let more : c.args.found ≢ c.args.wanted = omega arith in
    rw c.in-None.ensures (entries_after-few c.args.wanted c.args.found more)

pub returns-in_err-entry-in-Some-clause-read : goal.returns-in_err-entry-in-Some-clause-read
returns-in_err-entry-in-Some-clause-read c =
    let more : c.args.found ≢ c.args.wanted = omega arith in
    let p = err_from_is_err_and c.from_residual.result c.from_residual.ensures.1 in
    let says = entries_after-fault c.args.wanted c.args.found c.in-Some.token.now
    (tokens c.in-Some.rest.now) _ more (sym c.in_err-entry-in-Some.ensures.entry) in
    rw (p.1, p.2, c.in-Some.ensures) (refused_with _ _ says)

pub returns-in_ok-entry-in-Some-clause-read : goal.returns-in_ok-entry-in-Some-clause-read
returns-in_ok-entry-in-Some-clause-read c =
    let more : c.args.found ≢ c.args.wanted = omega arith in
    let fits : SFits w32 c.in_ok-entry-in-Some.entry = search rules in
    let says = entries_after-entry c.args.wanted c.args.found c.in-Some.token.now
    (tokens c.in-Some.rest.now) c.in_ok-entry-in-Some.entry more
    (sym c.in_ok-entry-in-Some.ensures.entry) in
    rw (c.in-Some.ensures, to_z-of_z w32 c.in_ok-entry-in-Some.entry) says
