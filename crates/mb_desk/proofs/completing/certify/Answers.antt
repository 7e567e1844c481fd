-- The run ends in one way, and the certificate that is made of it is the computed one.
use Rattle.std.proofs.Common.{Ok, ap, subst, sym, ◌∙◌}
use Rattle.mb_certificate.specs.Certificate.{Certificate}
use Rattle.mb_completion.specs.Basis.{IsReducedBasis}
use Rattle.mb_desk.proofs.CompletedModels.{completion-made, completion-stops, judged-same, judged-stops}
use Rattle.mb_desk.proofs.completing.certify.Goals as goal
use Rattle.mb_desk.specs.Completing.{completed}
use Rattle.mb_desk.specs.Decision.{Decided, stop_cause}
use Rattle.mb_desk.specs.declared.completing.Completion.{Completion}
use Rattle.mb_order.specs.declared.order.Order.{Order}
use Rattle.mb_tables.specs.Answers.{IsRefused}

pub returns-in-Err-clause-completed : goal.returns-in-Err-clause-completed
returns-in-Err-clause-completed c =
    subst (λ stop. IsRefused (stop_cause stop)
    (completed c.args.matrix.now c.args.order c.args.pairs)) (sym c.complete_stop.ensures)
    (completion-stops c.args.matrix.now c.args.order c.args.pairs c.rows-rows.ensures.sound
    c.in-Err.fault c.in-Err.ensures.stops)

pub returns-in-Ok-judge-clause-completed : goal.returns-in-Ok-judge-clause-completed
returns-in-Ok-judge-clause-completed c =
    let valid = c.in-Ok-make.ensures.valid (subst
    (λ (o : Order). IsReducedBasis c.args.matrix.now o c.in-Ok.completed.rules.rules)
    (sym c.in-Ok.ensures.order) c.in-Ok.ensures.basis) in
    let made = completion-made c.args.matrix.now c.args.order c.args.pairs c.rows-rows.ensures.sound
    (c.in-Ok.ensures.looks).0 c.in-Ok.completed.looks c.in-Ok.completed.rules.rules
    c.in-Ok-make.certificate c.requires (c.in-Ok.ensures.looks).1 c.in-Ok.ensures.basis
    c.in-Ok-make.ensures.matrix (c.in-Ok-make.ensures.order ∙ c.in-Ok.ensures.order)
    c.in-Ok-make.ensures.rules c.in-Ok-make.ensures.moves
    c.in-Ok-make.ensures.starts c.in-Ok-make.ensures.joins c.in-Ok-make.ensures.paths in
    made ∙ ap (λ (x : Certificate). let d : Decided Completion =
    Ok (record { certificate = x; looks = c.in-Ok.completed.looks }) in d)
    (judged-same c.in-Ok-make.certificate c.matrix-parts.ensures.sound valid
    c.in-Ok-judge.certificate c.in-Ok-judge.ensures.right)

pub returns-clause-completed : goal.returns-clause-completed
returns-clause-completed c =
    let valid = c.in-Ok-make.ensures.valid (subst
    (λ (o : Order). IsReducedBasis c.args.matrix.now o c.in-Ok.completed.rules.rules)
    (sym c.in-Ok.ensures.order) c.in-Ok.ensures.basis) in
    judged-stops c.in-Ok-make.certificate c.matrix-parts.ensures.sound valid c.in-Err-judge.stop
    (completed c.args.matrix.now c.args.order c.args.pairs) c.in-Err-judge.ensures.right
