use Rattle.std.proofs.Common.{ap, arith, length, ◌∙◌, ◌≡◌}
use Rattle.mb_completion.proofs.Turns.{before-row}
use Rattle.mb_completion.proofs.run.take_row.Goals as goal
use Rattle.mb_completion.specs.loops.Going.{pairs_before}

pub returns-clause-place : goal.returns-clause-place
returns-clause-place c =
    let rules = c.loop-i.rules.rules in
    let e : c.loop-i.i ≡ c.args.j = omega arith in
    c.loop-i.invariant.place ∙ ap (λ i. length (pairs_before rules i c.args.j)) e
    ∙ ap length (before-row rules c.args.j)
