-- The keys of old words are claimed anew, and none is lost.
use Rattle.std.proofs.Common.{List, [], ap, arith, get_or, inl, inr, length, subst, sym, ℕ, ◌+◌, ◌<◌, ◌∙◌, ◌≡◌, ◌≢◌, ◌⊎◌, ⊎_elim}
use Rattle.std.proofs.lemmas.Bool.{cases_eq}
use Rattle.mb_claims.specs.Claims.{Answers}
use Rattle.mb_claims.specs.Notes.{Keeps}
use Rattle.mb_claims.specs.Probe.{Holds}
use Rattle.mb_claims.specs.declared.claim.Claim.{Claim}
use Rattle.mb_claims.specs.declared.claim.Claim.TheVariants.{Full, New, Seen}
use Rattle.mb_claims.specs.declared.views.Note.{Note}
use Rattle.mb_claims.specs.declared.views.PassView.{PassView}
use Rattle.mb_claims.specs.loops.Stored.{IsTold}
use Rattle.mb_tables.specs.Lists.{In}

-- what an answer tells of the key
pub told_by : (sizes : List ℕ) (key : ℕ) (before after : PassView) (answer : Claim) →
    Answers sizes key before after answer → IsTold sizes key after.notes
told_by sizes key before after New h = inl h.1
told_by sizes key before after Seen h = inl h.1
told_by sizes key before after (Full shard) h = inr h.2

-- a claim wins no other key
pub won_by : (sizes : List ℕ) (key : ℕ) (before after : PassView) (answer : Claim) → key ≢ 0 →
    Answers sizes key before after answer → (k : ℕ) → In k after.won →
    In k before.won ⊎ ((k ≡ key) × (key ≢ 0))
unfolding In
won_by sizes key before after New pos h k i =
    ⊎_elim (λ e. inr (e, pos)) (λ old. inl old) (subst (In k) h.0 i)
won_by sizes key before after Seen pos h k i = inl (subst (In k) h.0 i)
won_by sizes key before after (Full shard) pos h k i = inl (subst (In k) h.0 i)

-- what is told stays told
pub told_stays : (sizes : List ℕ) (key : ℕ) (before after : List Note) → Keeps before after →
    IsTold sizes key before → IsTold sizes key after
told_stays sizes key before after keeps (inl h) = inl (h.0, keeps _ h.1)
told_stays sizes key before after keeps (inr h) =
    inr (λ word l. let t = h word l in (t.0, keeps _ t.1, t.2))

-- the keys of the words before the place were claimed, and no others
pub record IsRefilled (sizes words : List ℕ) (pass : PassView) (place : ℕ) : Type 0 where
  pub won : (key : ℕ) → In key pass.won → (at : ℕ) × Holds words at key
  pub told : (at key : ℕ) → at < place → Holds words at key → IsTold sizes key pass.notes

-- at first none were
pub refills_none : (sizes words : List ℕ) (pass : PassView) → pass.won ≡ [] →
    IsRefilled sizes words pass 0
unfolding In
refills_none sizes words pass none = record {
  won = λ key i. absurd (subst (In key) none i);
  told = λ at key l h. absurd (omega arith);
}

-- and then that of one more word was
pub refills_more : (sizes words : List ℕ) (before after : PassView) (place : ℕ) →
    place < length words → Keeps before.notes after.notes →
    ((key : ℕ) → In key after.won →
    In key before.won ⊎ ((key ≡ get_or words place 0) × (get_or words place 0 ≢ 0))) →
    (get_or words place 0 ≢ 0 → IsTold sizes (get_or words place 0) after.notes) →
    IsRefilled sizes words before place → IsRefilled sizes words after (place + 1)
refills_more sizes words before after place within keeps won told h = record {
  won = λ key i. ⊎_elim
      (λ old. h.won key old)
      (λ new. (
        place,
        record {
          within = within;
          key_is = λ e. new.1 (sym new.0 ∙ e);
          word = sym new.0;
        },
      ))
      (won key i);
  told = λ at key l k. ⊎_elim
      (λ (e : at ≡ place).
      let is : get_or words place 0 ≡ key = ap (λ p. get_or words p 0) (sym e) ∙ k.word in
      subst (λ n. IsTold sizes n after.notes) is (told (λ z. k.key_is (sym is ∙ z))))
      (λ ne. told_stays sizes key before.notes after.notes keeps (h.told at key (omega arith) k))
      (cases_eq at place);
}
