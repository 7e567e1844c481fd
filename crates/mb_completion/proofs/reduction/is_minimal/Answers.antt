use Rattle.std.proofs.Common.{arith}
use Rattle.std.proofs.lemmas.Grind.{common_steps}
use Rattle.mb_completion.proofs.KeptRules.{divided, undivided}
use Rattle.mb_completion.proofs.reduction.is_minimal.Goals as goal

pub returns-then-is_below-clause-divided : goal.returns-then-is_below-clause-divided
returns-then-is_below-clause-divided c =
    divided c.args.rules.now c.len-q-end.ensures.sound.design c.len-q-end.ensures.sound.valid
    c.loop-q.q c.args.k
    (grind (arith, common_steps)) c.requires
    c.if-is_below.ensures.divides c.if-is_below.ensures.differs

pub returns-clause-minimal : goal.returns-clause-minimal
returns-clause-minimal c =
    undivided c.args.rules.now c.len-q-end.ensures.sound.design c.len-q-end.ensures.sound.valid
    c.args.k c.requires
    (λ i h. c.loop-q.invariant i (grind (arith, common_steps)))
