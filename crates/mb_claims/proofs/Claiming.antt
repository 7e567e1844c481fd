-- A claim goes along the probe path: what the pass knows on the way, and the answer at the end.
use Rattle.std.proofs.Common.{List, ap, arith, eqb, get_or, inl, inr, length, refl, subst, suc, sym, ℕ, ◌%◌, ◌*◌, ◌+◌, ◌-◌, ◌/◌, ◌<◌, ◌∙◌, ◌∷◌, ◌≡◌, ◌≢◌, ⊎_elim}
use Rattle.std.proofs.Math.Nat.{add-mod-mod, suc-mul}
use Rattle.std.proofs.lemmas.Bool.{cases_eq, cond-false, ne_eqb}
use Rattle.std.proofs.lemmas.Nat.{div-add-mod', mod-mul-add, mod_below}
use Rattle.mb_claims.specs.ClaimStep.{met, tried, won}
use Rattle.mb_claims.specs.Claims.{Answers}
use Rattle.mb_claims.specs.Notes.{IsTaken, Keeps, note}
use Rattle.mb_claims.specs.Probe.{probe, shard_of, start_of}
use Rattle.mb_claims.specs.declared.claim.Claim.TheVariants.{Full, New, Seen}
use Rattle.mb_claims.specs.declared.views.PassView.{PassView}
use Rattle.mb_tables.specs.Lists.{In}

-- so many steps along the path, the pass has met other keys alone
pub record IsUnderWay (sizes : List ℕ) (key : ℕ) (before now : PassView) (steps : ℕ) : Type 0 where
  pub number : now.number ≡ before.number
  pub sizes_same : now.sizes ≡ before.sizes
  pub won_same : now.won ≡ before.won
  pub notes : Keeps before.notes now.notes
  pub taken : (past : ℕ) → past < steps → IsTaken now.notes key (probe sizes key past)

-- a compare-and-exchange that finds another number than 0 meets it
pub tried-met : (pass : PassView) (place key found : ℕ) → found ≢ 0 →
    tried pass place key found ≡ met pass place found
tried-met pass place key found full =
    cond-false (eqb found 0) (won pass place key) (met pass place found) (ne_eqb found 0 full)

-- one step further
pub goes_on : (sizes : List ℕ) (key : ℕ) (before now next : PassView) (steps place found : ℕ) →
    IsUnderWay sizes key before now steps → place ≡ probe sizes key steps →
    next ≡ tried now place key found → found ≢ 0 → found ≢ key →
    IsUnderWay sizes key before next (steps + 1)
unfolding In
goes_on sizes key before now next steps place found way there is full other =
    subst (λ p. IsUnderWay sizes key before p (steps + 1))
    (sym (is ∙ tried-met now place key found full)) (record {
      number = way.number;
      sizes_same = way.sizes_same;
      won_same = way.won_same;
      notes = λ n i. inr (way.notes n i);
      taken = λ past l. ⊎_elim
          (λ (e : past ≡ steps).
          let same : place ≡ probe sizes key past = there ∙ ap (probe sizes key) (sym e) in
          (found, inl (ap (λ p. note p found) (sym same)), other))
          (λ ne.
          let t = way.taken past (omega arith) in (t.0, inr t.1, t.2))
          (cases_eq past steps);
    })

-- what a claim owes beside its answer
pub record IsKept (before after : PassView) : Type 0 where
  pub number : after.number ≡ before.number
  pub sizes_same : after.sizes ≡ before.sizes
  pub notes : Keeps before.notes after.notes

-- on the way the pass keeps its number, its sizes and its notes
pub way-kept : {sizes : List ℕ} {key : ℕ} {before now : PassView} {steps : ℕ} →
    IsUnderWay sizes key before now steps → IsKept before now
way-kept way = record { number = way.number; sizes_same = way.sizes_same; notes = way.notes }

-- and after a compare-and-exchange
pub tried-kept : (before now next : PassView) (place key found : ℕ) → IsKept before now →
    next ≡ tried now place key found → IsKept before next
unfolding In
tried-kept before now next place key found kept is = ⊎_elim
    (λ (e : found ≡ 0).
    subst (IsKept before) (sym (is ∙ ap (tried now place key) e)) (record {
      number = kept.number;
      sizes_same = kept.sizes_same;
      notes = λ n i. inr (kept.notes n i);
    }))
    (λ full.
    subst (IsKept before) (sym (is ∙ tried-met now place key found full)) (record {
      number = kept.number;
      sizes_same = kept.sizes_same;
      notes = λ n i. inr (kept.notes n i);
    }))
    (cases_eq found 0)

-- the place was empty: the key is new
pub answers_new : (sizes : List ℕ) (key : ℕ) (before now next : PassView) (steps place found : ℕ) →
    IsUnderWay sizes key before now steps → next ≡ tried now place key found → found ≡ 0 →
    Answers sizes key before next New
unfolding In
answers_new sizes key before now next steps place found way is empty =
    subst (λ p. Answers sizes key before p New) (sym (is ∙ ap (tried now place key) empty))
    (ap (λ l. key ∷ l) way.won_same, (place, inl refl))

-- the place holds the key
pub answers_seen : (sizes : List ℕ) (key : ℕ) (before now next : PassView) (steps place found : ℕ) →
    IsUnderWay sizes key before now steps → next ≡ tried now place key found → found ≢ 0 →
    found ≡ key → Answers sizes key before next Seen
unfolding In
answers_seen sizes key before now next steps place found way is full here =
    subst (λ p. Answers sizes key before p Seen) (sym (is ∙ tried-met now place key found full))
    (way.won_same, (place, inl (ap (note place) (sym here))))

-- each word of a shard is on the path: the step that comes to it
pub steps_to : (first size word : ℕ) → word < size →
    (steps : ℕ) × (steps < size) × ((first + steps) % size ≡ word)
steps_to first size word l =
    let home : ℕ = first % size in
    let turns : ℕ = first / size in
    let low : home < size = mod_below first size (omega arith) in
    let whole : turns * size + home ≡ first = div-add-mod' first size in
    let way : ℕ = word + (size - home) in
    let product : ℕ = turns * size in
    let more : suc turns * size ≡ product + size = suc-mul turns size in
    let around : first + way ≡ suc turns * size + word = omega arith in (
      way % size,
      mod_below way size (omega arith),
      add-mod-mod first way size ∙ ap (λ n. n % size) around ∙ mod-mul-add (suc turns) size word l,
    )

-- once around the shard
pub answers_full : (sizes : List ℕ) (key shard : ℕ) (before now : PassView) →
    shard ≡ shard_of sizes key →
    IsUnderWay sizes key before now (get_or sizes (shard_of sizes key) 0) →
    Answers sizes key before now (Full shard)
answers_full sizes key shard before now is way = (
  way.won_same,
  is,
  (λ word l.
      let size : ℕ = get_or sizes (shard_of sizes key) 0 in
      let s = steps_to (key / length sizes) size word l in
      subst (IsTaken now.notes key)
      (ap (λ n. start_of sizes (shard_of sizes key) + n) s.2) (way.taken s.0 s.1)),
)
