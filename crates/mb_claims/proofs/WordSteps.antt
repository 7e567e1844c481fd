-- A compare-and-exchange from 0 to a key keeps the rule: won steps and met steps.
use Rattle.std.proofs.Common.{Bool, List, [], ap, arith, cond, eqb, false, get_or, inl, inr, length, refl, set, subst, sum, sym, true, ℕ, ◌+◌, ◌<◌, ◌∙◌, ◌≡◌, ◌≢◌, ◌⊎◌, ⊎_elim}
use Rattle.std.proofs.lemmas.Bool.{cases_eq, cases_order, eqb-true, eqb-false}
use Rattle.std.proofs.lemmas.List.{get_or-set_other, get_or-set_same, length-set, set-get_or}
use Rattle.std.specs.List.{sum_by}
use prog.Atomic.{either}
use Rattle.atomic_table.specs.Table.{Allows, Me, keeps, step}
use Rattle.mb_claims.proofs.Occurrences.{occurrences-cons, occurrences-fill, once_where}
use Rattle.mb_claims.proofs.SeatSums.{sum_by-put}
use Rattle.mb_claims.proofs.ProbeSteps.{probe-within}
use Rattle.mb_claims.proofs.ViewSteps.{AreKeys-set, AreNoted-set, AreOpened-pass, AreSized-set, pass_same}
use Rattle.mb_claims.specs.ClaimRule.{AreCounted, AreReached, AreStoredOnce, IsClaimed, Knows}
use Rattle.mb_claims.specs.ClaimStep.{IsNext, met, tried, tries, won}
use Rattle.mb_claims.specs.Lists.{occurrences}
use Rattle.mb_claims.specs.Notes.{note}
use Rattle.mb_claims.specs.Probe.{Holds, probe, shard_of}
use Rattle.mb_claims.specs.View.{keys_of, pass_of}
use Rattle.mb_claims.specs.declared.views.Note.{Note}
use Rattle.mb_claims.specs.declared.views.PassView.{PassView}
use Rattle.mb_claims.specs.declared.views.View.{View}
use Rattle.mb_claims.specs.declared.views.View.TheVariants.{OfPass}
use Rattle.mb_tables.specs.Lists.{In}

-- the place is one of the words
pub IsNext-within : {sizes : List ℕ} {pass : PassView} {key place : ℕ} →
    IsNext sizes pass key place → place < sum sizes
IsNext-within {sizes = sizes} {key = key} next =
    subst (λ p. p < sum sizes) (sym next.there)
    (probe-within sizes key next.steps next.steps next.short)

-- a seat that has a pass's view and no slot, by what a step says of it
pub pass_kept : {S : Type 0} (me after : Me S View) (pass : PassView) → me.1 ≡ [] →
    after ≡ (OfPass pass, me.1) → after ≡ (OfPass (pass_of after.0), [])
pass_kept me after pass none e =
    let same : pass_of after.0 ≡ pass = ap (λ t. pass_of t.0) e in
    e ∙ ap (λ l. (OfPass pass, l)) none ∙ ap (λ p. (OfPass p, [])) (sym same)

-- a met step keeps the rule: the words are as they were, and the pass knows one more
pub met-kept : (sizes words : List ℕ) (views : List View) → IsClaimed sizes words views →
    (seat : ℕ) (pass : PassView) → Knows views seat (OfPass pass) →
    (place : ℕ) → place < length words → get_or words place 0 ≢ 0 →
    IsClaimed sizes words (set views seat (OfPass (met pass place (get_or words place 0))))
unfolding In
met-kept sizes words views rule seat pass at place within full = record {
  sized =
      AreSized-set sizes words words views seat _ refl (rule.sized.shared seat (OfPass pass) at)
      rule.sized;
  noted =
      AreNoted-set words words views seat _ (λ q k h. h)
      (λ n i. ⊎_elim
      (λ (e : n ≡ note place (get_or words place 0)).
      subst (λ (m : Note). Holds words m.place m.key) (sym e)
      (record { within = within; key_is = full; word = refl }))
      (λ old. rule.noted seat (OfPass pass) at n old)
      i)
      rule.noted;
  reached = rule.reached;
  once = rule.once;
  counted = record {
    keys = AreKeys-set views seat _ (rule.counted.keys seat (OfPass pass) at) rule.counted.keys;
    often = λ k pos.
        let f : View → ℕ = λ v. occurrences k (keys_of v) in
        let same =
        sum_by-put f views seat (OfPass pass)
        (OfPass (met pass place (get_or words place 0))) at in
        let a : ℕ = f (OfPass pass) in
        let was : sum_by f views ≡ occurrences k words = rule.counted.often k pos in omega arith;
  };
  numbered = AreOpened-pass views seat pass _ at refl rule.numbered;
}

module _ (sizes words : List ℕ) (views : List View) (rule : IsClaimed sizes words views)
    (seat : ℕ) (pass : PassView) (at : Knows views seat (OfPass pass))
    (key place : ℕ) (next : IsNext sizes pass key place) where
  -- the place is one of the words
  place-within : place < length words
  place-within =
      subst (λ n. place < n) (sym rule.sized.total) (IsNext-within next)

  -- a word before the place on the path holds another key
  other_there : (before : ℕ) → before < next.steps →
      (other : ℕ) × Holds words (probe sizes key before) other × (other ≢ key)
  other_there before l =
      let t = next.taken before l in
      (t.0, rule.noted seat (OfPass pass) at (note (probe sizes key before) t.0) t.1, t.2)

  module _ (empty : get_or words place 0 ≡ 0) where
    -- before a won step no word holds the key
    pub no_word_holds : (q : ℕ) → Holds words q key → ⊥
    no_word_holds q holds =
        let r = rule.reached q key holds in ⊎_elim
        (λ (e : r.steps ≡ next.steps).
        let here : q ≡ place = r.there ∙ ap (probe sizes key) e ∙ sym next.there in
        next.some_key (sym holds.word ∙ ap (λ p. get_or words p 0) here ∙ empty))
        (λ s. ⊎_elim
        (λ (l : r.steps < next.steps).
        let o = other_there r.steps l in
        o.2 (sym (o.1).word ∙ ap (λ p. get_or words p 0) (sym r.there) ∙ holds.word))
        (λ (l : next.steps < r.steps).
        r.filled next.steps l (ap (λ p. get_or words p 0) (sym next.there) ∙ empty))
        s)
        (cases_order r.steps next.steps)

    -- a word that isn't 0 stays
    filled_stays : (q : ℕ) → get_or words q 0 ≢ 0 →
        get_or (set words place key) q 0 ≡ get_or words q 0
    filled_stays q full =
        get_or-set_other words place q key 0
        (λ e. full (ap (λ p. get_or words p 0) e ∙ empty))

    -- so it is still not 0
    still_filled : (q : ℕ) → get_or words q 0 ≢ 0 → get_or (set words place key) q 0 ≢ 0
    still_filled q full e = full (sym (filled_stays q full) ∙ e)

    -- a key that a word holds stays
    stays : (q k : ℕ) → Holds words q k → Holds (set words place key) q k
    stays q k h = record {
      within = subst (λ n. q < n) (sym (length-set words place key)) h.within;
      key_is = h.key_is;
      word = filled_stays q (λ e. h.key_is (sym h.word ∙ e)) ∙ h.word;
    }

    -- the key is the only new one
    put_here : Holds (set words place key) place key
    put_here = record {
      within = subst (λ n. place < n) (sym (length-set words place key)) place-within;
      key_is = next.some_key;
      word = get_or-set_same words place key 0 place-within;
    }

    -- a key that a word holds now is the new one, or it held it before
    held_before : (q k : ℕ) → Holds (set words place key) q k →
        ((q ≡ place) × (k ≡ key)) ⊎ Holds words q k
    held_before q k h = ⊎_elim
        (λ (e : q ≡ place).
        inl (
          e,
          sym h.word ∙ ap (λ p. get_or (set words place key) p 0) e
              ∙ get_or-set_same words place key 0 place-within,
        ))
        (λ ne. inr (record {
          within = subst (λ n. q < n) (length-set words place key) h.within;
          key_is = h.key_is;
          word = sym (get_or-set_other words place q key 0 ne) ∙ h.word;
        }))
        (cases_eq q place)

    -- each stored key is still reached along its path
    reached_still : AreReached sizes (set words place key)
    reached_still q k h = ⊎_elim
        (λ t. record {
          steps = next.steps;
          short = subst (λ n. next.steps < get_or sizes (shard_of sizes n) 0) (sym t.1) next.short;
          there = t.0 ∙ next.there ∙ ap (λ n. probe sizes n next.steps) (sym t.1);
          filled = λ before l.
              let o = other_there before l in
              subst (λ n. get_or (set words place key) (probe sizes n before) 0 ≢ 0) (sym t.1)
              (still_filled (probe sizes key before) (λ e. (o.1).key_is (sym (o.1).word ∙ e)));
        })
        (λ old. let r = rule.reached q k old in record {
          steps = r.steps;
          short = r.short;
          there = r.there;
          filled = λ before l. still_filled (probe sizes k before) (r.filled before l);
        })
        (held_before q k h)

    -- no key is stored twice
    once_still : AreStoredOnce (set words place key)
    once_still k p q h l = ⊎_elim
        (λ s. ⊎_elim
        (λ t. s.0 ∙ sym t.0)
        (λ t. absurd (no_word_holds q (subst (Holds words q) s.1 t)))
        (held_before q k l))
        (λ s. ⊎_elim
        (λ t. absurd (no_word_holds p (subst (Holds words p) t.1 s)))
        (λ t. rule.once k p q s t)
        (held_before q k l))
        (held_before p k h)

    -- the keys of the views are counted as they are stored
    often_still : (k : ℕ) → k ≢ 0 →
        sum_by (λ v. occurrences k (keys_of v)) (set views seat (OfPass (won pass place key)))
        ≡ occurrences k (set words place key)
    often_still k pos =
        let f : View → ℕ = λ v. occurrences k (keys_of v) in
        let words_more = occurrences-fill k key place words pos place-within empty in
        let views_more : sum_by f (set views seat (OfPass (won pass place key))) + f (OfPass pass)
        ≡ sum_by f views + f (OfPass (won pass place key)) =
        sum_by-put f views seat (OfPass pass) (OfPass (won pass place key)) at in
        let won_more : f (OfPass (won pass place key)) ≡ once_where k key + f (OfPass pass) =
        occurrences-cons k key pass.won in
        let was : sum_by f views ≡ occurrences k words = rule.counted.often k pos in
        let a : ℕ = f (OfPass pass) in
        let b : ℕ = f (OfPass (won pass place key)) in omega arith

    -- and they are keys
    counted_still : AreCounted (set words place key) (set views seat (OfPass (won pass place key)))
    unfolding In
    counted_still = record {
      keys = AreKeys-set views seat (OfPass (won pass place key))
          (λ i. ⊎_elim
          (λ (e : 0 ≡ key). next.some_key (sym e))
          (λ j. rule.counted.keys seat (OfPass pass) at j)
          i)
          rule.counted.keys;
      often = λ k pos. often_still k pos;
    }

    -- a won step keeps the rule
    pub won-kept :
        IsClaimed sizes (set words place key) (set views seat (OfPass (won pass place key)))
    unfolding In
    won-kept = record {
      sized =
          AreSized-set sizes words (set words place key) views seat _ (length-set words place key)
          (rule.sized.shared seat (OfPass pass) at) rule.sized;
      noted =
          AreNoted-set words (set words place key) views seat _ stays
          (λ n i. ⊎_elim
          (λ (e : n ≡ note place key).
          subst (λ (m : Note). Holds (set words place key) m.place m.key) (sym e) put_here)
          (λ old. stays n.place n.key (rule.noted seat (OfPass pass) at n old))
          i)
          rule.noted;
      reached = reached_still;
      once = once_still;
      counted = counted_still;
      numbered = AreOpened-pass views seat pass (won pass place key) at refl rule.numbered;
    }

-- a compare-and-exchange from 0 to the key keeps the rule
pub tries-kept : {S : Type 0} (sizes : List ℕ) (slots seat : ℕ) (me : Me S View) (pass : PassView)
    (key place : ℕ) → me.0 ≡ OfPass pass → IsNext sizes pass key place →
    Allows (λ s. IsClaimed sizes s.words s.views) slots seat me place
    (λ n. either (eqb n 0) key n) (tries (step slots place 0 key mathlib.Core.Option.none) me)
tries-kept sizes slots seat me pass key place is next s rule homes at range =
    let at' : Knows s.views seat (OfPass pass) = at ∙ ap mathlib.Core.Option.some is in
    let n : ℕ = get_or s.words place 0 in
    let Kept : Bool → Type 0 = λ b.
    IsClaimed sizes (set s.words place (either b key n))
    (set s.views seat (OfPass (cond b (won pass place key) (met pass place n)))) in
    let by : (b : Bool) → eqb n 0 ≡ b → Kept b = λ b.
    elim b as (λ v. eqb n 0 ≡ v → Kept v) [
      | true ↦ (λ e.
          won-kept sizes s.words s.views rule seat pass at' key place next (eqb-true n 0 e))
      | false ↦ (λ e.
          subst (λ ws. IsClaimed sizes ws (set s.views seat (OfPass (met pass place n))))
          (sym (set-get_or s.words place 0))
          (met-kept sizes s.words s.views rule seat pass at' place
          (subst (λ m. place < m) (sym rule.sized.total) (IsNext-within next)) (eqb-false n 0 e)))
    ] in (
      OfPass (tried pass place key n),
      keeps,
      tt,
      by (eqb n 0) refl,
      (λ other same.
          let e : pass ≡ other = pass_same pass other (sym is ∙ same) in
          ap (λ (p : PassView). (OfPass (tried p place key n), me.1)) e),
    )
