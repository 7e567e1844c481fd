use Rattle.std.proofs.Common.{arith}
use Rattle.mb_completion.proofs.PeaksOfRun.{run_light}
use Rattle.mb_completion.proofs.laws.light_peaks.Goals as goal
use Rattle.mb_completion.specs.Start.{births}

pub returns : goal.returns
returns c matrix order pairs final looks are r =
    run_light matrix order pairs (births matrix.rows matrix.columns) 0 final looks
    (λ k p l e. absurd (omega arith)) r
