-- What a call does with a request that nothing refuses.
use Rattle.std.specs.Prelude.{List, Option, codes, ℕ, ◌≡◌, ◌⊎◌}
use Rattle.mb_desk.specs.Changes.{changed}
use Rattle.mb_desk.specs.World.{World}
use Rattle.mb_desk.specs.declared.plans.Plan.{Plan}
use Rattle.mb_desk.specs.declared.status.Status.{Status}
use Rattle.mb_desk.specs.declared.status.Status.TheVariants as statuses
use Rattle.mb_outside.specs.Sink.{Grows}

-- the plan is done: its change was made, and its whole answer was put
pub record IsDone (w v : World) (plan : Plan) (before after : Option (List ℕ)) (status : Status)
    : Type 0 where
  pub done : status ≡ statuses.Done
  pub made : v ≡ changed plan.change w
  pub put : Grows before after plan.answer

-- it lacks memory: all is as it was, and that was put
pub record LacksMemory (w v : World) (before after : Option (List ℕ)) (status : Status)
    : Type 0 where
  pub memory : status ≡ statuses.Memory
  pub same : v ≡ w
  pub put : Grows before after (codes "refused Memory\n")

-- one of the two
abbrev pub Completes : World → World → Plan → Option (List ℕ) → Option (List ℕ) → Status → Type 0
Completes w v plan before after status =
    IsDone w v plan before after status ⊎ LacksMemory w v before after status
