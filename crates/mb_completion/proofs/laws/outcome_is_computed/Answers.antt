use Rattle.std.proofs.Common.{subst}
use Rattle.mb_completion.proofs.Births.{births-valid}
use Rattle.mb_completion.proofs.ComputedRuns.{runs-computed}
use Rattle.mb_completion.proofs.SameOutcomes.{one_outcome}
use Rattle.mb_completion.proofs.laws.outcome_is_computed.Goals as goal
use Rattle.mb_completion.specs.Outcome.{outcome_of}
use Rattle.mb_completion.specs.Run.{RunEnds}
use Rattle.mb_completion.specs.Start.{births_of}

pub returns : goal.returns
returns c matrix order pairs end are =
    let valid = births-valid order matrix.rows matrix.columns are.each in
    let own = runs-computed matrix order are pairs (births_of matrix) 0 valid in (
      λ r. one_outcome matrix order are pairs (births_of matrix) 0 (outcome_of matrix order pairs)
          end valid own r,
      λ e. subst (RunEnds matrix order pairs) e own,
    )
