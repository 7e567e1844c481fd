use Rattle.std.proofs.Common.{ap, arith, rules as proof_rules, sym, ◌+◌, ◌-◌, ◌∙◌}
use Rattle.mb_completion.proofs.Going.{counts, goes_one, leaves, passes, stops_here}
use Rattle.mb_completion.proofs.Turns.{next_turn}
use Rattle.mb_completion.proofs.run.take_turn.Goals as goal

pub returns-then-not-is_shared-clause-place : goal.returns-then-not-is_shared-clause-place
returns-then-not-is_shared-clause-place c =
    c.requires.place
    ∙ sym (passes c.args.rules.now.rules c.args.i c.args.j (sym c.is_shared.ensures
    ∙ c.if-not-is_shared.true))

pub returns-then-looks-pairs-clause-stops : goal.returns-then-looks-pairs-clause-stops
returns-then-looks-pairs-clause-stops c =
    leaves c.args.rules.now.matrix c.args.rules.now.order
    (c.args.pairs - c.args.looks) c.args.rules.now.rules c.args.looks c.args.i c.args.j
    (omega arith) (next_turn _ _ _ _ c.requires.place c.requires.first c.requires.second
    c.is_shared.ensures c.if-not-is_shared.false)

pub returns-in_err-look-clause-stops : goal.returns-in_err-look-clause-stops
returns-in_err-look-clause-stops c =
    let first = c.requires.first in
    let stops =
    stops_here c.args.rules.now.matrix c.args.rules.now.order c.args.pairs c.args.rules.now.rules
    c.args.looks c.args.i c.args.j c.in_err-look.field-0.0
    (let x = c.requires.looks in grind arith)
    (next_turn _ _ _ _ c.requires.place c.requires.first c.requires.second c.is_shared.ensures
    c.if-not-is_shared.false)
    (let y = c.requires.second in omega arith) c.requires.second c.in_err-look.ensures.heavy in
    search (proof_rules, stops)

pub returns-clause-goes_on : goal.returns-clause-goes_on
returns-clause-goes_on c =
    let first = c.requires.first in
    goes_one c.args.rules.now.matrix c.args.rules.now.order c.args.pairs c.args.rules.now.rules
    c.look.new.rules.rules c.args.looks c.args.i c.args.j
    (let x = c.requires.looks in grind arith)
    (next_turn _ _ _ _ c.requires.place c.requires.first c.requires.second c.is_shared.ensures
    c.if-not-is_shared.false)
    (let y = c.requires.second in omega arith) c.requires.second c.in_ok-look.ensures.looked

pub returns-clause-place : goal.returns-clause-place
returns-clause-place c =
    let l = c.in_ok-look.ensures.looked in
    ap (λ n. n + 1) c.requires.place
    ∙ sym (counts c.args.rules.now.rules c.look.new.rules.rules l.0 c.args.i c.args.j
    c.requires.first c.requires.second (sym c.is_shared.ensures ∙ c.if-not-is_shared.false) l.2)
