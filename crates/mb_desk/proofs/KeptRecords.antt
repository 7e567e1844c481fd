-- What becomes of a record that is kept, and what is known of one that was found.
use Rattle.std.proofs.Common.{Bool, Err, List, None, Ok, Option, Some, ap, cond, false, inl, inr, refl, subst, true, ℕ, ◌≡◌}
use Rattle.std.proofs.lemmas.Slice.Eq.{bytes_eq-Decides}
use Rattle.std.specs.FinMap.{get}
use Rattle.std.specs.Option.{ok_or}
use Rattle.std.specs.Str.{bytes_eq}
use Rattle.mb_desk.proofs.Fitting.{Fits, or_ok}
use Rattle.mb_desk.specs.Changes.{changed}
use Rattle.mb_desk.specs.Recorded.{added_plan, added_to, change_refusal, found, kept_plan, look_refusal}
use Rattle.mb_desk.specs.StoredAnswers.{IsKept}
use Rattle.mb_desk.specs.World.{World}
use Rattle.mb_desk.specs.declared.plans.Plan.{Plan}
use Rattle.mb_outside.specs.Rows.{Rows}
use Rattle.mb_registry.proofs.RowKeys.{inserted}
use Rattle.mb_registry.specs.Adding.{added_of, beside_kept, refers}
use Rattle.mb_registry.specs.Faults.{Answer}
use Rattle.mb_registry.specs.Kinds.{key_of}
use Rattle.mb_registry.specs.Looking.{kept, kept_as}
use Rattle.mb_registry.specs.declared.adding.Added.{Added}
use Rattle.mb_registry.specs.declared.adding.Added.TheVariants.{Stored, Unchanged}
use Rattle.mb_registry.specs.declared.fault.RegistryFault.TheVariants.{BadRecord, Conflict, Unknown}
use Rattle.mb_registry.specs.declared.kinds.Kind.{Kind}
use Rattle.mb_text.proofs.RecordSteps.{stepped}

-- ---- found

-- an option that had to be there was
ok_or_ok : {A F : Type 0} (o : Option A) (fault : F) (x : A) → ok_or o fault ≡ Ok x → o ≡ Some x
ok_or_ok None fault x e = absurd (cc)
ok_or_ok (Some y) fault x e = cc

-- what the registry found
pub found_ok : {A : Type 0} (look : Rows → Answer A) (rows : Rows) (x : A) →
    found look rows ≡ Ok x → look rows ≡ Ok x
found_ok look rows x e = or_ok look_refusal (look rows) x e

-- a body that is kept is there
pub kept_ok : (kind : Kind) (name : List ℕ) (rows : Rows) (body : List ℕ) →
    kept kind name rows ≡ Ok body → get rows (key_of kind name) ≡ Some body
kept_ok kind name rows body e =
    ok_or_ok (get rows (key_of kind name)) (Unknown kind name) body e

-- what a look-up under a kind and a name gives is what the body there is read as
pub kept_as_is : {A : Type 0} (kind : Kind) (read : List ℕ → Option A) (name : List ℕ)
    (rows : Rows) (x : A) → kept_as kind read name rows ≡ Ok x →
    (body : List ℕ) × (get rows (key_of kind name) ≡ Some body) × (read body ≡ Some x)
kept_as_is kind read name rows x e =
    let a =
    stepped (kept kind name rows) (λ body. ok_or (read body) (BadRecord kind name)) x e in (
      a.0,
      kept_ok kind name rows a.0 a.1,
      ok_or_ok (read a.0) (BadRecord kind name) x a.2,
    )

-- so is what was found there
pub kept_as_ok : {A : Type 0} (kind : Kind) (read : List ℕ → Option A) (name : List ℕ)
    (rows : Rows) (x : A) → found (kept_as kind read name) rows ≡ Ok x →
    (body : List ℕ) × (get rows (key_of kind name) ≡ Some body) × (read body ≡ Some x)
kept_as_ok kind read name rows x e =
    kept_as_is kind read name rows x (found_ok (kept_as kind read name) rows x e)

-- ---- kept

-- what was there before a record is stored, or left unchanged
abbrev pub WasBefore : List ℕ → Option (List ℕ) → Added → Type 0
WasBefore body old Stored = old ≡ None
WasBefore body old Unchanged = old ≡ Some body

-- a record is stored only where there was none, and left only where its body was there
pub was_before : (body : List ℕ) (old : Option (List ℕ)) (added : Added) →
    beside_kept body old ≡ Ok added → WasBefore body old added
was_before body None added e =
    let same : Stored ≡ added = cc in subst (WasBefore body None) same refl
was_before body (Some old) added e = by (bytes_eq old body) refl e
  where
    by : (equal : Bool) → bytes_eq old body ≡ equal →
        cond equal (Ok Unchanged) (Err (Conflict old)) ≡ Ok added → WasBefore body (Some old) added
    by false test e = absurd (cc)
    by true test e =
        let same : Unchanged ≡ added = cc in
        subst (WasBefore body (Some old)) same (ap Some ((bytes_eq-Decides old body).0 test))

-- what was there before a record that is kept
pub kept_before : (kind : Kind) (name : List ℕ) (reference : Option (Kind × List ℕ)) (body : List ℕ)
    (rows : Rows) (added : Added) → added_to kind name reference body rows ≡ Ok added →
    WasBefore body (get rows (key_of kind name)) added
unfolding added_to
kept_before kind name reference body rows added e =
    let a =
    stepped (refers reference rows) (λ there. beside_kept body (get rows (key_of kind name))) added
    (or_ok (change_refusal kind name) (added_of kind name reference body rows) added e) in
    was_before body (get rows (key_of kind name)) added a.2

-- the row that is added wasn't there
added_fits : (kind : Kind) (name body lines : List ℕ) (w : World) (added : Added) →
    WasBefore body (get w.rows (key_of kind name)) added →
    Fits (added_plan kind name body lines added).change w
added_fits kind name body lines w Stored none = λ misses. misses none
added_fits kind name body lines w Unchanged same = λ misses. misses

-- the record is kept
pub added_means : (kind : Kind) (name body lines : List ℕ) (w : World) (added : Added) →
    WasBefore body (get w.rows (key_of kind name)) added →
    IsKept kind name body lines w.rows
    (changed (added_plan kind name body lines added).change w).rows
    (added_plan kind name body lines added).answer
added_means kind name body lines w Stored none = record {
  there = inserted w.rows (key_of kind name) body;
  said = inl (none, refl);
}
added_means kind name body lines w Unchanged same = record { there = same; said = inr (same, refl) }

-- the plan that keeps a record fits
pub kept_fits : (kind : Kind) (name : List ℕ) (reference : Option (Kind × List ℕ))
    (body lines : List ℕ) (w : World) (plan : Plan) →
    kept_plan kind name reference body lines w.rows ≡ Ok plan → Fits plan.change w
kept_fits kind name reference body lines w plan e =
    let a =
    stepped (added_to kind name reference body w.rows)
    (λ added. Ok (added_plan kind name body lines added)) plan e in
    let same : added_plan kind name body lines a.0 ≡ plan = cc in
    subst (λ (p : Plan). Fits p.change w) same
    (added_fits kind name body lines w a.0 (kept_before kind name reference body w.rows a.0 a.1))

-- and keeps it
pub kept_means : (kind : Kind) (name : List ℕ) (reference : Option (Kind × List ℕ))
    (body lines : List ℕ) (w : World) (plan : Plan) →
    kept_plan kind name reference body lines w.rows ≡ Ok plan →
    IsKept kind name body lines w.rows (changed plan.change w).rows plan.answer
kept_means kind name reference body lines w plan e =
    let a =
    stepped (added_to kind name reference body w.rows)
    (λ added. Ok (added_plan kind name body lines added)) plan e in
    let same : added_plan kind name body lines a.0 ≡ plan = cc in
    subst (λ (p : Plan). IsKept kind name body lines w.rows (changed p.change w).rows p.answer) same
    (added_means kind name body lines w a.0 (kept_before kind name reference body w.rows a.0 a.1))
