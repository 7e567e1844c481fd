use Rattle.std.proofs.Common.{sym, ap, subst, ◌∙◌}
use Rattle.mb_claims.specs.Notes.{IsNoted, Keeps}
use Rattle.mb_keyed.proofs.ClaimSteps.{claims-won}
use Rattle.mb_keyed.proofs.worker.claim_shared.Goals as goal

pub returns-in-New-clause-claimed : goal.returns-in-New-clause-claimed
returns-in-New-clause-claimed c =
    let same = c.keep.ensures.pass in
    claims-won c.args.key c.args.worker.now c.keep.new.worker
    (ap (λ p. p.knows.number) same ∙ c.claim.ensures.number)
    (subst (λ p. Keeps c.args.worker.now.pass.knows.notes p.knows.notes) (sym same)
    c.claim.ensures.notes)
    (ap (λ p. p.knows.won) same ∙ c.in-New.ensures.answer.0)
    (subst (λ p. IsNoted p.knows.notes c.args.key) (sym same) c.in-New.ensures.answer.1)
    c.keep.ensures.left c.keep.ensures.short c.keep.ensures.found
