use Rattle.std.proofs.Common.{arith, ◌≡◌}
use Rattle.mb_completion.proofs.MadeJoins.{joins-row}
use Rattle.mb_completion.proofs.joins.add_row.Goals as goal

pub returns : goal.returns
returns c =
    let e : c.loop-i.i ≡ c.args.j = omega arith in
    joins-row c.args.rules.now.rules c.loop-i.i c.args.j c.loop-i.joins.items e c.loop-i.invariant
