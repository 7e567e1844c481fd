-- What is known where `check` found no wrong line.
use Rattle.std.proofs.Common.{List, None, Ok, Option, Some, ap, refl, subst, ℕ, ◌∙◌, ◌≡◌}
use Rattle.std.specs.FinMap.{get}
use Rattle.mb_certificate.proofs.CertificateLaws.{certificate_is}
use Rattle.mb_certificate.proofs.NoFaults.{valid-none}
use Rattle.mb_certificate.specs.Certificate.{Certificate}
use Rattle.mb_certificate.specs.CertificateText.{certificate_of}
use Rattle.mb_certificate.specs.FirstFault.{first_fault}
use Rattle.mb_certificate.specs.declared.line_fault.Fault.{Fault}
use Rattle.mb_checker.proofs.ValidCertificates.{valid-markov}
use Rattle.mb_desk.proofs.Fitting.{or_ok}
use Rattle.mb_desk.proofs.Inversions.{body_there}
use Rattle.mb_desk.specs.CheckCommand.{certified, checked, found, joins_line, judged, judged_by}
use Rattle.mb_desk.specs.Headline.{AnswersCheck}
use Rattle.mb_desk.specs.Inputs.{body_of}
use Rattle.mb_desk.specs.declared.refusals.Refusal.TheVariants as refusals
use Rattle.mb_outside.specs.Files.{Held}
use Rattle.mb_text.proofs.RecordSteps.{stepped}

-- what is judged right is what it was, and no line of it is wrong
pub judged_ok : (c kept : Certificate) (first : Option Fault) → judged_by c first ≡ Ok kept →
    (c ≡ kept) × (first ≡ None)
judged_ok c kept None e = (cc, refl)
judged_ok c kept (Some fault) e = absurd (cc)

-- where `check` finds a certificate, its answer has its meaning
pub checks : (held : Held) (name : List ℕ) (c : Certificate) → checked name held ≡ Ok c →
    AnswersCheck held name (joins_line c)
checks held name c e =
    let b = stepped (found name held) judged c e in
    let a = stepped (body_of 1 (get held name)) (certified 1) b.0 b.1 in
    let right = judged_ok b.0 c (first_fault b.0) b.2 in
    let read = or_ok (refusals.Text 1) (certificate_of a.0) b.0 a.2 in
    let spelled = certificate_is a.0 b.0 read in
    let valid = valid-none b.0 spelled.1 right.1 in
    let means : AnswersCheck held name (joins_line b.0) = record {
      certificate = b.0;
      there = body_there 1 (get held name) a.0 a.1 ∙ ap Some spelled.0;
      parts = spelled.1;
      valid = valid;
      basis = valid-markov b.0 valid spelled.1;
      printed = refl;
    } in
    subst (λ (x : Certificate). AnswersCheck held name (joins_line x)) right.0 means
