use Rattle.mb_checker.proofs.ValidCertificates.{valid-markov}
use Rattle.mb_checker.proofs.WholeText.{verdict-valid}
use Rattle.mb_checker.proofs.checking.check.Goals as goal
use Rattle.mb_checker.specs.declared.verdict.Verdict.TheVariants.{Joins, Refused}

pub returns-in-Ok-clause-joins : goal.returns-in-Ok-clause-joins
returns-in-Ok-clause-joins c =
    verdict-valid c.args.certificate.now c.matrix-matrix.ensures.sound Joins c.in-Ok.ensures

pub returns-in-Err-Wrong-clause-joins : goal.returns-in-Err-Wrong-clause-joins
returns-in-Err-Wrong-clause-joins c =
    verdict-valid c.args.certificate.now c.matrix-matrix.ensures.sound
    (Refused c.in-Err-Wrong.fault.line c.in-Err-Wrong.fault.reason)
    (rw c.in-Err-Wrong.field-0-is at c.in-Err-Wrong.ensures)

pub returns-in-Ok-clause-basis : goal.returns-in-Ok-clause-basis
returns-in-Ok-clause-basis c = λ joins.
    let certificate = c.args.certificate.now in
    let sound = c.matrix-matrix.ensures.sound in
    let judged = verdict-valid certificate sound Joins c.in-Ok.ensures in
    valid-markov certificate (judged.0 joins) sound

pub returns-in-Err-Wrong-clause-basis : goal.returns-in-Err-Wrong-clause-basis
returns-in-Err-Wrong-clause-basis c = λ joins. absurd (cc joins)
