-- Sound rows stay sound along accepted requests.
use Rattle.std.proofs.Common.{List, Ok, [], subst, sym, ◌∙◌, ◌∷◌, ◌≡◌}
use Rattle.std.specs.FinMap.{empty, get-empty}
use Rattle.mb_desk.proofs.KeptRecords.{kept_as_is}
use Rattle.mb_desk.proofs.SoundPlans.{plan_keeps}
use Rattle.mb_desk.specs.Calls.{after_request, after_requests}
use Rattle.mb_desk.specs.Changes.{changed}
use Rattle.mb_desk.specs.Commands.{plan_of}
use Rattle.mb_desk.specs.Sound.{AreSound}
use Rattle.mb_desk.specs.SoundLaws.{AllAreSaid, StepsKeepSoundness}
use Rattle.mb_desk.specs.World.{World}
use Rattle.mb_desk.specs.declared.requests.Request.{Request}
use Rattle.mb_outside.specs.Rows.{key_cmp}
use Rattle.mb_registry.proofs.OrderlySteps.{empty_orderly}
use Rattle.mb_registry.specs.Bodies.{record_of}
use Rattle.mb_registry.specs.Kinds.{key_of}
use Rattle.mb_text.proofs.RecordSteps.{stepped}

-- no rows are sound
none_sound : AreSound empty
none_sound = record {
  orderly = empty_orderly;
  each = λ kind name entry e.
      let a = kept_as_is kind (record_of kind) name empty entry e in
      absurd (cc (sym (get-empty key_cmp (key_of kind name)) ∙ a.1));
}

-- rows after requests
after_sound : (requests : List Request) (w v : World) → AllAreSaid requests w → AreSound w.rows →
    after_requests requests w ≡ Ok v → AreSound v.rows
unfolding AllAreSaid after_requests
after_sound [] w v said sound e =
    let same : w ≡ v = cc in subst (λ (u : World). AreSound u.rows) same sound
after_sound (request ∷ requests) w v said sound e =
    let a = stepped (after_request request w) (λ u. after_requests requests u) v e in
    let b = stepped (plan_of request w) (λ plan. Ok (changed plan.change w)) a.0 a.1 in
    let same : changed (b.0).change w ≡ a.0 = cc in
    after_sound requests a.0 v (said.2 a.0 a.1)
    (subst (λ (u : World). AreSound u.rows) same
    (plan_keeps request w b.0 said.0 said.1 sound b.1)) a.2

-- the law of sound rows
pub steps_keep_soundness : StepsKeepSoundness
steps_keep_soundness = record { from_none = none_sound; steps = after_sound }
