-- Lists of calls of the desk, and what they leave.
use Rattle.std.specs.Prelude.{List, Ok, Option, None, Some, [], ◌∷◌, ◌≡◌}
use Rattle.mb_desk.specs.Changes.{changed}
use Rattle.mb_desk.specs.Commands.{plan_of}
use Rattle.mb_desk.specs.Decision.{Decided}
use Rattle.mb_desk.specs.World.{World}
use Rattle.mb_desk.specs.declared.plans.Change.TheVariants.{Nothing}
use Rattle.mb_desk.specs.declared.plans.Plan.{Plan}
use Rattle.mb_desk.specs.declared.requests.Request.{Request}
use Rattle.mb_tables.specs.Answers.{◌>>=◌}

-- a call as it leaves the world: its request was accepted and its change made, or all is as it was
abbrev pub Leads : Option Request → World → World → Type 0
Leads None w v = v ≡ w
Leads (Some request) w v =
    (plan : Plan) × (plan_of request w ≡ Ok plan) × (v ≡ changed plan.change w)

-- calls, one after the other
unfoldable pub LeadAll : List (Option Request) → World → World → Type 0
LeadAll [] w v = v ≡ w
LeadAll (call ∷ calls) w v = (u : World) × Leads call w u × LeadAll calls u v

-- the requests that were accepted, in order
unfoldable pub accepted_of : List (Option Request) → List Request
accepted_of [] = []
accepted_of (None ∷ calls) = accepted_of calls
accepted_of (Some request ∷ calls) = request ∷ accepted_of calls

-- the world after a request that is accepted
abbrev pub after_request : Request → World → Decided World
after_request request w = plan_of request w >>= λ plan. Ok (changed plan.change w)

-- the world after requests that are accepted one after the other
unfoldable pub after_requests : List Request → World → Decided World
after_requests [] w = Ok w
after_requests (request ∷ requests) w =
    after_request request w >>= λ v. after_requests requests v

-- whatever calls were made, the world that they leave is the one after the accepted requests, in
-- order
abbrev pub CallsAreReplayed : Type 0
CallsAreReplayed =
    (calls : List (Option Request)) (w v : World) → LeadAll calls w v →
    after_requests (accepted_of calls) w ≡ Ok v

-- a request that is accepted and changes nothing is accepted again, with the same answer
abbrev pub RepeatsAlike : Type 0
RepeatsAlike =
    (request : Request) (w : World) (plan : Plan) → plan_of request w ≡ Ok plan →
    plan.change ≡ Nothing → plan_of request (changed plan.change w) ≡ Ok plan
