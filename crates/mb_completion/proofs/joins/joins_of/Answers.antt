use Rattle.std.proofs.Common.{subst, sym}
use Rattle.mb_completion.proofs.MadeJoins.{joins-none}
use Rattle.mb_completion.proofs.joins.joins_of.Goals as goal
use Rattle.mb_completion.specs.loops.Making.{AreJoining}

pub loop-j-init : goal.loop-j-init
loop-j-init c =
    let rules = c.args.rules.now.rules in
    subst (AreJoining rules 0 0) (sym c.new-joins.ensures.items) (joins-none rules)
