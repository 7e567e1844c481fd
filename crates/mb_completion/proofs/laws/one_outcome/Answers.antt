use Rattle.mb_completion.proofs.Births.{births-valid}
use Rattle.mb_completion.proofs.SameOutcomes as outcome
use Rattle.mb_completion.proofs.laws.one_outcome.Goals as goal
use Rattle.mb_completion.specs.Start.{births}

pub returns : goal.returns
returns c matrix order pairs a b are x y =
    outcome.one_outcome matrix order are pairs (births matrix.rows matrix.columns) 0 a b
    (births-valid order matrix.rows matrix.columns are.each) x y
