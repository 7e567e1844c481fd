-- The completion of a model, and why it stops.
use Rattle.std.specs.Prelude.{Err, Ok, ℕ}
use Rattle.mb_completion.specs.CertificateOf.{certificate_of_run}
use Rattle.mb_completion.specs.Outcome.{outcome_of}
use Rattle.mb_completion.specs.Run.{Finished, Outcome, TooHeavy, Unfinished}
use Rattle.mb_completion.specs.declared.fault.CompleteFault.{CompleteFault}
use Rattle.mb_completion.specs.declared.fault.CompleteFault.TheVariants as runs
use Rattle.mb_desk.specs.Decision.{Decided}
use Rattle.mb_desk.specs.declared.completing.Completion.{Completion}
use Rattle.mb_desk.specs.declared.plans.Stop.{Stop}
use Rattle.mb_desk.specs.declared.plans.Stop.TheVariants.{Memory, Refused}
use Rattle.mb_desk.specs.declared.refusals.Refusal.TheVariants as refusals
use Rattle.mb_matrix.specs.Matrix.{Design}
use Rattle.mb_order.specs.declared.order.Order.{Order}

-- why the work stops for the fault that a completion answers
abbrev pub complete_stop : CompleteFault → Stop
complete_stop (runs.Unfinished looked left) = Refused (refusals.Unfinished looked left)
complete_stop (runs.Exponent pair) = Refused (refusals.Exponent pair)
complete_stop runs.OutOfMemory = Memory

-- the completion of a run, which is to be finished
abbrev pub completion_of : Design → Order → Outcome → Decided Completion
completion_of matrix order (Finished final looks) =
    Ok (record { certificate = certificate_of_run matrix order final; looks = looks })
completion_of matrix order (Unfinished looks i j) = Err (refusals.Unfinished looks (i, j))
completion_of matrix order (TooHeavy i j) = Err (refusals.Exponent (i, j))

-- the completion of a design matrix by an order, with so many looks
unfoldable pub completed : Design → Order → ℕ → Decided Completion
completed matrix order pairs = completion_of matrix order (outcome_of matrix order pairs)
