use Rattle.mb_completion.proofs.KeepingSteps.{keeps_passed, keeps_put_ok}
use Rattle.mb_completion.proofs.reduction.keep_one.Goals as goal

pub returns-then-not-is_minimal : goal.returns-then-not-is_minimal
returns-then-not-is_minimal c =
    keeps_passed c.args.rules.now c.len-rules.ensures.sound c.args.k c.args.kept.now.items
    c.requires.keeping c.if-not-is_minimal.ensures.divided

pub returns : goal.returns
returns c =
    keeps_put_ok c.args.rules.now c.len-rules.ensures.sound c.insert.result c.args.k
    c.args.kept.now.items c.insert.new.kept.items c.in_ok-rule.rule c.order.result
    c.order.ensures c.requires.keeping c.in_ok-rule.ensures.kept c.in_ok-rule.ensures.left
    c.in_ok-rule.ensures.shape c.insert.ensures.put
    c.insert.ensures.members c.insert.ensures.long
