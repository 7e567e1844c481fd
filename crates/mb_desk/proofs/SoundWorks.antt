-- Sound rows stay sound under the work of a request.
use Rattle.std.proofs.Common.{Err, Ok, ap, inl, inr, subst, sym, ◌≡◌}
use Rattle.mb_desk.proofs.Making.{Made, Makes}
use Rattle.mb_desk.proofs.SoundPlans.{plan_keeps}
use Rattle.mb_desk.proofs.Told.{weakened}
use Rattle.mb_desk.proofs.Works.{of_work, stopped}
use Rattle.mb_desk.specs.Commands.{needs_of, plan_of}
use Rattle.mb_desk.specs.Decision.{Decided, Does, InWorld, Scene}
use Rattle.mb_desk.specs.Ends.{Commits, IsHalfWritten, Leaves}
use Rattle.mb_desk.specs.Needs.{Touches, needed}
use Rattle.mb_desk.specs.Sound.{AreSound}
use Rattle.mb_desk.specs.SoundLaws.{CanBeSaid, IsRequest}
use Rattle.mb_desk.specs.World.{World, world_of}
use Rattle.mb_desk.specs.declared.plans.Change.{Change}
use Rattle.mb_desk.specs.declared.plans.Change.TheVariants.{Adds, Nothing, Removes, Writes}
use Rattle.mb_desk.specs.declared.plans.Plan.{Plan}
use Rattle.mb_desk.specs.declared.plans.Stop.{Stop}
use Rattle.mb_desk.specs.declared.plans.Stop.TheVariants.{Memory, Outside, Refused}
use Rattle.mb_desk.specs.declared.requests.Request.{Request}

-- rows that a failed write leaves are as they were
half_rows : (change : Change) (w v : World) → IsHalfWritten change w v → v.rows ≡ w.rows
half_rows Nothing w v half = absurd half
half_rows (Adds kind name body) w v half = absurd half
half_rows (Removes kind name) w v half = absurd half
half_rows (Writes file body) w v half = half.1

-- so are the rows after work that stopped
stopped_rows : (decided : Decided Plan) (w v : World) (failed : Type 0) (stop : Stop) →
    Leaves decided w v failed (Err stop) → v.rows ≡ w.rows
stopped_rows decided w v failed Memory left = ap (λ (x : World). x.rows) left
stopped_rows decided w v failed Outside (inl same) = ap (λ (x : World). x.rows) same
stopped_rows decided w v failed Outside (inr (rose, (plan, is, half))) =
    half_rows plan.change w v half
stopped_rows decided w v failed (Refused refusal) left = ap (λ (x : World). x.rows) left.1

-- sound rows are sound after work whose plan stopped
pub stopped_sound : (before after : Scene) (decide : World → Decided Plan) (stop : Stop) →
    Does {A = Plan} before after (Err stop) decide →
    InWorld before after (λ w v. AreSound w.rows → AreSound v.rows)
stopped_sound before after decide stop does =
    weakened _ _ (world_of before.files before.rows) (world_of after.files after.rows)
    (λ w v left sound.
    subst AreSound (sym (stopped_rows (decide w) w v _ stop left)) sound)
    (stopped before after decide stop does).left

-- sound rows are sound, whatever the change of a plan makes of the world
made_sound : (request : Request) (w v : World) (plan : Plan) (failed : Type 0) (made : Made) →
    IsRequest request × CanBeSaid request w → plan_of request w ≡ Ok plan →
    Makes plan.change w v failed made → AreSound w.rows → AreSound v.rows
made_sound request w v plan failed (Ok _) said decided makes sound =
    subst (λ (x : World). AreSound x.rows) (sym makes)
    (plan_keeps request w plan said.0 said.1 sound decided)
made_sound request w v plan failed (Err Memory) said decided makes sound =
    subst (λ (x : World). AreSound x.rows) (sym makes) sound
made_sound request w v plan failed (Err Outside) said decided (inl same) sound =
    subst (λ (x : World). AreSound x.rows) (sym same) sound
made_sound request w v plan failed (Err Outside) said decided (inr half) sound =
    subst AreSound (sym (half_rows plan.change w v half.1)) sound
made_sound request w v plan failed (Err (Refused refusal)) said decided makes sound = absurd makes

-- sound rows are sound after a plan and its change
pub committed_sound : (request : Request) (before between after : Scene) (plan : Plan)
    (made : Made) →
    Does (needed (needs_of request) before) (needed (needs_of request) between) (Ok plan)
    (plan_of request) → Touches (needs_of request) plan.change →
    InWorld (needed (needs_of request) before) (needed (needs_of request) between)
    (λ w _. IsRequest request × CanBeSaid request w) →
    Commits between after plan.change made →
    InWorld (needed (needs_of request) before) (needed (needs_of request) after)
    (λ w v. AreSound w.rows → AreSound v.rows)
committed_sound request before between after plan made does touches said commits =
    of_work request before between after plan made (λ w _. IsRequest request × CanBeSaid request w)
    (λ w v. AreSound w.rows → AreSound v.rows) does touches commits said
    (λ w v known decided makes. made_sound request w v plan _ made known decided makes)
