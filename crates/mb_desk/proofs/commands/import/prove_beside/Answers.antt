-- What is answered of the moves is what is decided of them.
use Rattle.std.proofs.Common.{Err, Ok, subst, sym}
use Rattle.mb_desk.proofs.BesideMoves.{beside-gives}
use Rattle.mb_desk.specs.Decision.{stop_cause}
use Rattle.mb_desk.specs.ImportCommand.{beside_of}
use Rattle.mb_tables.specs.Answers.{IsRefused}
use Rattle.mb_desk.proofs.commands.import.prove_beside.Goals as goal

pub returns-in-Ok-clause-new : goal.returns-in-Ok-clause-new
returns-in-Ok-clause-new c =
    beside-gives c.args.limit c.args.certificate.now c.matrix-parts.ensures.sound c.requires.valid
    c.args.moves.now (Ok c.in-Ok.new) c.in-Ok.ensures.answer

pub returns-in-Err-clause-new : goal.returns-in-Err-clause-new
returns-in-Err-clause-new c =
    subst (λ stop. IsRefused (stop_cause stop)
    (beside_of c.args.limit c.args.certificate.now c.args.moves.now)) (sym c.beside_stop.ensures)
    (beside-gives c.args.limit c.args.certificate.now c.matrix-parts.ensures.sound c.requires.valid
    c.args.moves.now (Err c.in-Err.fault) c.in-Err.ensures.answer)
