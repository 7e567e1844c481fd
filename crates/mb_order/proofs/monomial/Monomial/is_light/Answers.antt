use Rattle.std.proofs.Common.{ap, arith, inl, inr, sum, ◌<◌, ◌≤◌, ◌⊎◌}
use Rattle.mb_order.proofs.CellWeights.{weight-degree, weights-past}
use Rattle.mb_order.proofs.monomial.Monomial.is_light.Goals as goal

pub returns-then-degree-le-LIGHT_DEGREE-clause-light :
    goal.returns-then-degree-le-LIGHT_DEGREE-clause-light
returns-then-degree-le-LIGHT_DEGREE-clause-light c i =
    let matrix = c.args.matrix.now in
    let s = c.rows-rows.ensures.sound in
    let bound =
    weight-degree 1000 matrix.rows matrix.columns c.args.self.now.list i (omega arith) s.small in
    let degree = c.degree.ensures in
    let same = ap sum c.as_slice.ensures.exponents in
    let few = c.if-degree-le-LIGHT_DEGREE.true in
    omega arith

pub returns-clause-light : goal.returns-clause-light
returns-clause-light c i =
    let rows = c.args.matrix.now.rows in
    let s = c.rows-rows.ensures.sound in
    let same = c.rows-rows.ensures.rows in
    let end = c.loop-row-test.false in
    let cases : (i < rows) ⊎ (rows ≤ i) = grind arith in
    elim cases [
      | inl l ↦ c.loop-row.invariant i (grind arith)
      | inr l ↦
          (let e = weights-past rows c.args.matrix.now.columns c.args.self.now.list i s.each l in
          omega arith)
    ]
