-- What the numbers of the certificate say of the fiber.
use Rattle.std.proofs.Common.{subst, sym}
use Rattle.mb_desk.proofs.GeneratedNumbers.{found-few, found-refused, found-tables, seed-cells, seed-margins}
use Rattle.mb_desk.specs.Decision.{stop_cause}
use Rattle.mb_desk.specs.GenerateCommand.{tested_square}
use Rattle.mb_tables.specs.Answers.{IsRefused}
use Rattle.mb_desk.proofs.commands.generate.test.Goals as goal

pub numbers-requires-clause-cells : goal.numbers-requires-clause-cells
numbers-requires-clause-cells g c κs within =
    seed-cells c.args.certificate.now.matrix c.args.table.now c.requires.matrix c.requires.table

pub numbers-requires-clause-margins : goal.numbers-requires-clause-margins
numbers-requires-clause-margins g c κs within =
    seed-margins c.args.certificate.now.matrix c.args.table.now c.requires.matrix c.requires.table

pub returns-in-Ok-clause-tables : goal.returns-in-Ok-clause-tables
returns-in-Ok-clause-tables g c =
    found-tables c.args.certificate.now c.matrix.ensures.sound c.requires.valid c.args.table.now
    c.requires.matrix c.in_ok-measure.measure c.in_ok-measure.ensures.measure c.in-Ok.figures
    (seed-cells c.args.certificate.now.matrix c.args.table.now c.requires.matrix c.requires.table)
    c.in-Ok.ensures.exact

pub returns-in-Ok-clause-few : goal.returns-in-Ok-clause-few
returns-in-Ok-clause-few g c =
    found-few c.args.certificate.now c.matrix.ensures.sound c.requires.valid c.args.table.now
    c.requires.matrix c.in_ok-measure.measure c.in_ok-measure.ensures.measure c.in-Ok.figures
    (seed-cells c.args.certificate.now.matrix c.args.table.now c.requires.matrix c.requires.table)
    c.in-Ok.ensures.exact

pub returns-clause-fraction : goal.returns-clause-fraction
returns-clause-fraction g c =
    subst (λ stop. IsRefused (stop_cause stop) (tested_square c.args.table.now))
    (sym c.numbers_stop.ensures)
    (found-refused c.args.certificate.now c.matrix.ensures.sound c.requires.valid c.args.table.now
    c.requires.matrix c.in_ok-measure.measure c.in_ok-measure.ensures.measure c.in-Err.fault
    c.in-Err.ensures.exact)
