use Rattle.std.proofs.Common.{ap, arith, length, rules as proof_rules, subst, ◌<◌, ◌∙◌, ◌≡◌}
use Rattle.mb_certificate.specs.FirstFault.{ends_fault, peak_fault, replay}
use Rattle.mb_certificate.specs.declared.line_fault.Reason.TheVariants.{PairNotJoined}
use Rattle.mb_checker.proofs.JoinLines.{divisor-rewritten, high-divides, low-divides, peak-judged, step-made_at}
use Rattle.mb_checker.proofs.joins.peak_fault.Goals as goal
use Rattle.mb_matrix.specs.Matrix.{Design}
use Rattle.mb_order.specs.Monomial.{Exponents}
use Rattle.mb_order.specs.Peak.{peak, sides_of}
use Rattle.mb_order.specs.Rewriting.{made}
use Rattle.mb_order.specs.Weight.{IsLight}

pub returns-clause-fault : goal.returns-clause-fault
returns-clause-fault c =
    let parts = c.args.certificate.now in
    let rules = parts.rules in
    let join = c.args.join.now in
    let i = c.join.inside.low in
    let j = c.join.inside.high in
    let a : i ≡ join.low = search proof_rules in
    let b : j ≡ join.high = search proof_rules in
    let low = sides_of rules i in
    let high = sides_of rules j in
    let top = peak low high in
    let first = c.step.new.m.list in
    let second = c.step-2.new.m.list in
    let judged : c.ends_fault.result
    ≡ ends_fault PairNotJoined (replay rules join.low_steps first)
    (replay rules join.high_steps second) = search proof_rules in
    let same = c.put_peak.ensures.list in
    let light = subst (IsLight parts.matrix) same
    (subst (λ (d : Design). IsLight d c.put_peak.new.m.list) c.matrix.ensures.matrix
    c.if-not-is_light.ensures.light) in
    let copied = ap (λ (m : Exponents). m.list) c.copy_from.ensures ∙ same in
    let first_there : i < length rules = (let l = c.requires.low in omega arith) in
    let second_there : j < length rules = (let l = c.requires.high in omega arith) in
    let e = step-made_at rules i c.put_peak.new.m.list top first (made low top)
    c.step.result same c.step.ensures.made c.step.ensures.none
    (divisor-rewritten rules i top first_there (low-divides low high)) in
    let f = step-made_at rules j c.copy_from.new.self.list top second (made high top)
    c.step-2.result copied c.step-2.ensures.made c.step-2.ensures.none
    (divisor-rewritten rules j top second_there (high-divides low high)) in
    judged ∙ peak-judged parts.matrix rules join low high first second light e f
    ∙ ap (λ k. peak_fault parts.matrix rules join (sides_of rules k) high) a
    ∙ ap (λ k. peak_fault parts.matrix rules join (sides_of rules join.low) (sides_of rules k)) b
