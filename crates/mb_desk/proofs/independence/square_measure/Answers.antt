-- The scale and the base are a measure on the design matrix, as is worked out.
use Rattle.mb_desk.proofs.SquareModel.{measured-as, square_cells}
use Rattle.mb_desk.proofs.independence.square_measure.Goals as goal

pub try_new-requires : goal.try_new-requires
try_new-requires c = square_cells c.args.matrix.now c.requires

pub returns-in-Ok-clause-measure : goal.returns-in-Ok-clause-measure
returns-in-Ok-clause-measure c =
    measured-as c.args.matrix.now c.in_ok-rows.rows.items c.in-Ok.measure c.requires
    c.in_ok-rows.ensures.items c.in-Ok.ensures.exact
