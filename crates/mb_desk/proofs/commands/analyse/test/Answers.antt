-- The records fit each other, and the counts are few.
use Rattle.std.proofs.Common.{ap, length, subst, sum, sym, ◌∙◌, ◌≤◌}
use Rattle.mb_desk.proofs.AnalysedTables.{some-rings, total-margins}
use Rattle.mb_desk.proofs.SameMatrices.{same-decides}
use Rattle.mb_desk.proofs.commands.analyse.test.Goals as goal
use Rattle.mb_matrix.specs.Matrix.{Design}
use Rattle.mb_matrix.specs.Measure.{IsMeasureOf, Weighting}

pub numbers-requires-clause-cells : goal.numbers-requires-clause-cells
numbers-requires-clause-cells g c κs within =
    let records = c.args.records.now in
    let same = (same-decides records.certificate.matrix records.model.matrix).0 c.requires.matrix in
    ap length c.in-Ok.ensures ∙ sym c.requires.cells
    ∙ ap (λ (m : Design). length m.columns) (sym same)

pub numbers-requires-clause-margins : goal.numbers-requires-clause-margins
numbers-requires-clause-margins g c κs within =
    total-margins c.args.records.now.certificate.matrix c.in-Ok.observed
    c.matrix-parts.ensures.sound.design
    (subst (λ u. sum u ≤ 1000000) (sym c.in-Ok.ensures) c.cells-cells.ensures.sound.total)

pub numbers-requires-clause-measure : goal.numbers-requires-clause-measure
numbers-requires-clause-measure g c κs within =
    let records = c.args.records.now in
    let same = (same-decides records.certificate.matrix records.model.matrix).0 c.requires.matrix in
    subst (λ (w : Weighting). IsMeasureOf records.certificate.matrix w)
    (sym c.measure.ensures.measure)
    (subst (λ (m : Design). IsMeasureOf m records.model.measure) (sym same)
    c.measure.ensures.sound.weighted)

pub returns-in-Ok-numbers-clause-rings : goal.returns-in-Ok-numbers-clause-rings
returns-in-Ok-numbers-clause-rings g c =
    let records = c.args.records.now in
    let same = (same-decides records.certificate.matrix records.model.matrix).0 c.requires.matrix in
    some-rings records.certificate.matrix records.certificate.moves c.measure.result.now
    c.in-Ok.observed c.in-Ok-numbers.figures c.matrix-parts.ensures.sound.design
    (ap length c.in-Ok.ensures ∙ sym c.requires.cells
    ∙ ap (λ (m : Design). length m.columns) (sym same)) c.in-Ok-numbers.ensures.test
