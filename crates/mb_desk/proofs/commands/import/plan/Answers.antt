-- The moves that were read are the ones that are asked for.
use Rattle.mb_desk.proofs.SaidRequests.{if_ok_so, moves_said}
use Rattle.mb_desk.proofs.commands.import.plan.Goals as goal

pub returns-clause-said : goal.returns-clause-said
returns-clause-said g c =
    if_ok_so c.add.result _ _
    (λ said. moves_said c.args.words.now c.in_ok-moves.moves _ _ _ _
    c.in_ok-moves.ensures.does.decided said) c.add.ensures.said
