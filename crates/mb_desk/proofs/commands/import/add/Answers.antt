-- The certificate with moves that was made is the one that is asked for.
use Rattle.mb_desk.proofs.SaidRequests.{if_ok, import_said}
use Rattle.mb_desk.proofs.commands.import.add.Goals as goal

pub returns-clause-said : goal.returns-clause-said
returns-clause-said g c =
    if_ok c.keep_basis.result _
    (import_said c.args.words.now c.args.moves.now _ _ _ c.in_ok-proved.proved
    c.matrix-parts.ensures.sound c.in_ok-proved.ensures.does.decided
    c.keep_basis.ensures.does.same)
