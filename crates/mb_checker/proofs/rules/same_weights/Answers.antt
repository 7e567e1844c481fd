use Rattle.std.proofs.Common.{arith}
use Rattle.mb_checker.proofs.SameWeights.{weights-same}
use Rattle.mb_checker.proofs.rules.same_weights.Goals as goal

pub returns : goal.returns
returns c =
    weights-same c.args.matrix.now c.args.a.now.list c.args.b.now.list c.rows-row-end.ensures.sound
    (λ i l. let e = c.rows-row-end.ensures.rows in let f = c.loop-row-test.false in
    c.loop-row.invariant i (omega arith))
