-- The run ends in one way.
use Rattle.std.proofs.Common.{subst, sym}
use Rattle.mb_desk.proofs.GeneratedNumbers.{run-finished, run-stops}
use Rattle.mb_desk.specs.Decision.{stop_cause}
use Rattle.mb_desk.specs.GenerateCommand.{finished, square_outcome}
use Rattle.mb_tables.specs.Answers.{IsRefused}
use Rattle.mb_desk.proofs.commands.generate.square_certificate.Goals as goal

pub returns-in-Err-clause-finished : goal.returns-in-Err-clause-finished
returns-in-Err-clause-finished c =
    subst (λ stop. IsRefused (stop_cause stop) (finished square_outcome))
    (sym c.complete_stop.ensures)
    (run-stops c.args.matrix.now c.in-Err.fault c.requires c.in-Err.ensures.stops)

pub returns-in-Ok-make-clause-finished : goal.returns-in-Ok-make-clause-finished
returns-in-Ok-make-clause-finished c =
    run-finished c.args.matrix.now (c.in-Ok.ensures.looks).0 c.in-Ok.completed.looks c.requires
    (c.in-Ok.ensures.looks).1
