-- What an answer that was put means.
use Rattle.std.proofs.Common.{List, Ok, Option, subst, sym, ℕ, ◌≡◌}
use Rattle.mb_desk.proofs.EachCommand.{plan_means}
use Rattle.mb_desk.proofs.Told.{weakened}
use Rattle.mb_desk.specs.Changes.{changed}
use Rattle.mb_desk.specs.Commands.{plan_of}
use Rattle.mb_desk.specs.Decision.{InWorld, Scene}
use Rattle.mb_desk.specs.Headline.{Answers}
use Rattle.mb_desk.specs.World.{world_of}
use Rattle.mb_desk.specs.declared.plans.Plan.{Plan}
use Rattle.mb_desk.specs.declared.requests.Request.{Request}
use Rattle.mb_outside.specs.Sink.{Grows}

-- an answer that was put has its meaning
pub answer_means : (before after : Scene) (request : Request)
    (taken_before taken_after : Option (List ℕ)) →
    InWorld before after (λ w v. (plan : Plan) × (plan_of request w ≡ Ok plan)
    × (v ≡ changed plan.change w) × Grows taken_before taken_after plan.answer) →
    InWorld before after (λ w v. (answer : List ℕ) × Answers request w v answer
    × Grows taken_before taken_after answer)
answer_means before after request tb ta done =
    weakened _ _ (world_of before.files before.rows) (world_of after.files after.rows)
    (λ w v d. (
      (d.0).answer,
      subst (λ u. Answers request w u (d.0).answer) (sym d.2) (plan_means request w d.0 d.1),
      d.3,
    )) done
