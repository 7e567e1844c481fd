-- The sums over the rings are those over the fiber.
use Rattle.std.proofs.Common.{All, ap, length, subst, sym, ◌∙◌, ◌≡◌}
use Rattle.mb_desk.proofs.FiberTests.{kept-cells, kept-observed, kept-p_value, kept-reached, kept-wide, narrow-ok}
use Rattle.mb_desk.proofs.RingSizes.{kept-small}
use Rattle.mb_desk.specs.ExactTest.{narrow, weighed_fraction}
use Rattle.mb_matrix.specs.Matrix.{Design}
use Rattle.mb_weights.specs.PValue.{tables_in}
use Rattle.mb_desk.proofs.exact_test.weigh.Goals as goal

pub fraction_by-requires-clause-tables : goal.fraction_by-requires-clause-tables
fraction_by-requires-clause-tables g c κs within =
    subst (λ (m : Design). All (λ table. length table ≡ length m.columns)
    (tables_in c.all.result.now)) (sym c.matrix-matrix.ensures.matrix)
    (kept-cells c.args.certificate.now c.matrix-matrix.ensures.sound c.requires.valid
    c.args.observed.now c.requires.cells c.all.result.now
    (kept-reached c.args.certificate.now c.matrix-matrix.ensures.sound c.requires.valid
    c.args.observed.now c.requires.cells c.all.result.now c.args.rings.now.rings c.all.ensures.rings
    c.requires.rings))

pub fraction_by-requires-clause-listed : goal.fraction_by-requires-clause-listed
fraction_by-requires-clause-listed g c κs within =
    kept-observed c.args.certificate.now c.matrix-matrix.ensures.sound c.requires.valid
    c.args.observed.now c.requires.cells c.all.result.now
    (kept-reached c.args.certificate.now c.matrix-matrix.ensures.sound c.requires.valid
    c.args.observed.now c.requires.cells c.all.result.now c.args.rings.now.rings c.all.ensures.rings
    c.requires.rings)

pub fraction_by-requires-clause-rings : goal.fraction_by-requires-clause-rings
fraction_by-requires-clause-rings g c κs within =
    kept-small c.all.result.now c.args.rings.now.rings c.all.ensures.rings c.all.ensures.sizes

pub returns-in-Some-clause-fraction : goal.returns-in-Some-clause-fraction
returns-in-Some-clause-fraction g c =
    let found = weighed_fraction c.in-Some.weighed in
    let same =
    kept-p_value c.args.certificate.now c.matrix-matrix.ensures.sound c.requires.valid
    c.args.observed.now c.requires.cells c.args.measure.now found c.all.result.now
    (kept-reached c.args.certificate.now c.matrix-matrix.ensures.sound c.requires.valid
    c.args.observed.now c.requires.cells c.all.result.now c.args.rings.now.rings c.all.ensures.rings
    c.requires.rings) c.in-Some.ensures.below c.in-Some.ensures.whole in
    ap narrow (sym same) ∙ narrow-ok found (c.in-Some.ensures.order).3

pub returns-in-None-clause-fraction : goal.returns-in-None-clause-fraction
returns-in-None-clause-fraction g c =
    kept-wide c.args.certificate.now c.matrix-matrix.ensures.sound c.requires.valid
    c.args.observed.now c.requires.cells c.args.measure.now c.all.result.now
    (kept-reached c.args.certificate.now c.matrix-matrix.ensures.sound c.requires.valid
    c.args.observed.now c.requires.cells c.all.result.now c.args.rings.now.rings c.all.ensures.rings
    c.requires.rings) c.in-None.ensures.none
