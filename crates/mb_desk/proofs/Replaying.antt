-- What calls leave is what their accepted requests leave.
use Rattle.std.proofs.Common.{None, Ok, Some, [], ap, sym, ◌∙◌, ◌∷◌}
use Rattle.mb_desk.specs.Calls.{CallsAreReplayed, LeadAll, RepeatsAlike, accepted_of, after_requests}
use Rattle.mb_desk.specs.Changes.{changed}
use Rattle.mb_desk.specs.Commands.{plan_of}
use Rattle.mb_desk.specs.Decision.{Decided}
use Rattle.mb_desk.specs.declared.plans.Plan.{Plan}
use Rattle.mb_tables.specs.Answers.{◌>>=◌}

-- the law of lists of calls
pub calls_are_replayed : CallsAreReplayed
unfolding LeadAll accepted_of after_requests
calls_are_replayed [] w v lead = ap Ok (sym lead)
calls_are_replayed (None ∷ calls) w v (u, stayed, lead) =
    ap (after_requests (accepted_of calls)) (sym stayed) ∙ calls_are_replayed calls u v lead
calls_are_replayed (Some request ∷ calls) w v (u, (plan, decided, made), lead) =
    ap (λ (d : Decided Plan). d >>= (λ plan. Ok (changed plan.change w)) >>= λ u.
    after_requests (accepted_of calls) u) decided
    ∙ ap (after_requests (accepted_of calls)) (sym made)
    ∙ calls_are_replayed calls u v lead

-- the law of repeats
pub repeats_alike : RepeatsAlike
repeats_alike request w plan decided nothing =
    ap (λ change. plan_of request (changed change w)) nothing ∙ decided
