use Rattle.std.proofs.Common.{arith, subst, ◌≡◌}
use Rattle.mb_checker.proofs.JoinLines.{met-row}
use Rattle.mb_checker.proofs.joins.check_row.Goals as goal
use Rattle.mb_checker.specs.loops.Joined.{AreMet}

pub returns-clause-met : goal.returns-clause-met
returns-clause-met c =
    let parts = c.args.certificate.now in
    let e : c.loop-low.low ≡ c.args.high = omega arith in
    met-row parts c.args.high c.loop-low.judged
    (subst (λ i. AreMet parts i c.args.high c.loop-low.judged) e c.loop-low.invariant.met)
