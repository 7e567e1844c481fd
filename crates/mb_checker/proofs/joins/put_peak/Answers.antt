use Rattle.std.proofs.Common.{ap, ◌∙◌}
use Rattle.mb_order.proofs.PeakLaws.{peak-suits}
use Rattle.mb_order.specs.Monomial.{Exponents}
use Rattle.mb_tables.specs.Vectors.{greater}
use Rattle.mb_checker.proofs.joins.put_peak.Goals as goal

pub returns-clause-shape : goal.returns-clause-shape
returns-clause-shape c =
    let high = c.rule-high.result.now.left in
    peak-suits c.args.certificate.now.matrix c.rule-low.result.now.left high
    c.raise_to_lcm.new.self c.rule-low.ensures.shape.left c.rule-high.ensures.shape.left
    (c.raise_to_lcm.ensures.margins ∙ ap (λ (m : Exponents). m.margins) c.copy_from.ensures)
    (c.raise_to_lcm.ensures.list
    ∙ ap (λ (m : Exponents). greater m.list high.list) c.copy_from.ensures)
