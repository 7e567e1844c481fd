use Rattle.std.proofs.Common.{subst, sym}
use Rattle.mb_completion.proofs.KeepingSteps.{keeps_none}
use Rattle.mb_completion.proofs.reduction.keep_all.Goals as goal
use Rattle.mb_completion.specs.loops.Keeping.{IsKeeping}

pub loop-k-init : goal.loop-k-init
loop-k-init c =
    subst (IsKeeping c.args.rules.now.matrix c.args.rules.now.order c.args.rules.now.rules 0)
    (sym c.new-kept.ensures.items)
    (keeps_none c.args.rules.now c.len-k-end.ensures.sound)
