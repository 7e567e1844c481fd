-- The entries are those of the design matrix, as is worked out.
use Rattle.std.proofs.Common.{◌∙◌}
use Rattle.mb_desk.proofs.SquareModel.{entries-are, made-as}
use Rattle.mb_desk.proofs.independence.square_matrix.Goals as goal

pub returns-in-Ok : goal.returns-in-Ok
returns-in-Ok c =
    made-as c.as_slice.result.now c.in-Ok.matrix
    (entries-are c.as_slice.result.now (c.as_slice.ensures.value ∙ c.in_ok-entries.ensures))
    c.in-Ok.ensures.exact
