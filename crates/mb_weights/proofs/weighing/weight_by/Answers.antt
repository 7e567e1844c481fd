use Rattle.std.proofs.Common.{sym, ◌<◌, ◌^◌, ◌∙◌}
use Rattle.mb_weights.proofs.CellFactors.{answer_above, weight-factors, weight_above}
use Rattle.mb_weights.proofs.weighing.weight_by.Goals as goal
use Rattle.mb_weights.specs.Weight.{weight_of}

pub returns-clause-exact : goal.returns-clause-exact
returns-clause-exact c =
    rw (weight-factors c.args.measure.now c.args.table.now c.groups.ensures.sound
    (c.requires.table ∙ sym c.requires.measure))
    (rw (c.groups.ensures.groups, c.bases.ensures.bases, c.as_slice.ensures.counts)
    at c.product_of_factors.ensures)

pub returns-clause-positive : goal.returns-clause-positive
returns-clause-positive c =
    let cells = c.requires.table ∙ sym c.requires.measure in
    answer_above (weight_of c.args.measure.now c.args.table.now < 2 ^ 128)
    c.product_of_factors.result (weight_of c.args.measure.now c.args.table.now)
    (rw (weight-factors c.args.measure.now c.args.table.now c.groups.ensures.sound cells)
    (rw (c.groups.ensures.groups, c.bases.ensures.bases, c.as_slice.ensures.counts)
    at c.product_of_factors.ensures))
    (weight_above c.args.measure.now c.args.table.now c.groups.ensures.sound cells)
