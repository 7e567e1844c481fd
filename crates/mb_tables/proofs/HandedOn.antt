-- A refusal that is handed on from a call or a reading.
use Rattle.std.proofs.Common.{Err, None, Ok, Option, Result, Some, ap, subst, sym, ◌∙◌, ◌≡◌}
use Rattle.std.specs.Prelude.{IfErr}
use Rattle.std.specs.Result.{IsErrAnd}
use Rattle.mb_tables.specs.Answers.{Gives, IsRefused}

-- it has the cause that it came with
pub handed_on : {T F : Type 0} (r : Result T F) (fault : F) (HasCause : F → Type 0) →
    IsErrAnd r (λ e. e ≡ fault) → HasCause fault → IfErr r HasCause
handed_on (Ok x) fault HasCause h cause = tt
handed_on (Err e) fault HasCause h cause = subst HasCause (sym h) cause

-- and is the answer that a definition gives, where it was
pub gives-handed_on : {X Y F G : Type 0} (cause : F → Option G) (view : X → Y) (r : Result X F)
    (fault : F) (says : Result Y G) →
    IsErrAnd r (λ e. e ≡ fault) → IsRefused (cause fault) says → Gives cause view r says
gives-handed_on cause view (Ok x) fault says h refused = absurd h
gives-handed_on cause view (Err e) fault says h refused =
    subst (λ f. IsRefused (cause f) says) (sym h) refused

-- a refusal for this cause
pub refused_at : {X F : Type 0} (cause : Option F) (fault : F) (says : Result X F) →
    cause ≡ Some fault → says ≡ Err fault → IsRefused cause says
refused_at None fault says e f = absurd cc
refused_at (Some wrong) fault says e f = let same : fault ≡ wrong = cc in f ∙ ap Err same

-- a refusal of one reading is that of another that stops where the first does
pub refused_on : {X Y F : Type 0} (cause : Option F) (first : Result X F) (whole : Result Y F) →
    IsRefused cause first → ((wrong : F) → first ≡ Err wrong → whole ≡ Err wrong) →
    IsRefused cause whole
refused_on None first whole h on = tt
refused_on (Some wrong) first whole h on = on wrong h
