-- A change that is decided fits the world that it is decided over.
use Rattle.std.proofs.Common.{Err, List, Ok, Result, subst, ℕ, ◌≡◌}
use Rattle.mb_desk.specs.Changes.{Misses}
use Rattle.mb_desk.specs.Decision.{Decided, or_refusal}
use Rattle.mb_desk.specs.Plans.{answers}
use Rattle.mb_desk.specs.World.{World}
use Rattle.mb_desk.specs.declared.plans.Change.{Change}
use Rattle.mb_desk.specs.declared.plans.Plan.{Plan}
use Rattle.mb_desk.specs.declared.refusals.Refusal.{Refusal}

-- the value of a lower call whose fault would be a refusal
pub or_ok : {A F : Type 0} (refusal : F → Refusal) (says : Result A F) (x : A) →
    or_refusal refusal says ≡ Ok x → says ≡ Ok x
or_ok refusal (Ok y) x e = cc
or_ok refusal (Err fault) x e = absurd (cc)

-- a change misses no row of the world
abbrev pub Fits : Change → World → Type 0
Fits change w = Misses change w.rows → ⊥

-- a plan that was decided fits where its change does
pub answers_fit : (w : World) (decided answer : Plan) → Fits decided.change w →
    ◌≡◌ {A = Decided Plan} (Ok decided) (Ok answer) → Fits answer.change w
answers_fit w decided answer fit e =
    let same : decided ≡ answer = cc in subst (λ (p : Plan). Fits p.change w) same fit

-- the text of a plan that was decided
pub plan_text : (text : List ℕ) (plan : Plan) →
    ◌≡◌ {A = Decided Plan} (Ok (answers text)) (Ok plan) → text ≡ plan.answer
plan_text text plan e = cc
