-- The completion that was made is the one that is asked for.
use Rattle.mb_desk.proofs.SaidRequests.{completion_said, if_ok}
use Rattle.mb_desk.proofs.commands.basis.plan.Goals as goal

pub returns-clause-said : goal.returns-clause-said
returns-clause-said g c =
    if_ok c.keep.result _
    (completion_said c.args.words.now _ _ _ c.in_ok-completion.completion
    c.matrix-parts.ensures.sound c.in_ok-completion.ensures.does.decided c.keep.ensures.does.same)
