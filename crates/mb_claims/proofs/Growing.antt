-- After shards grew, each key has a word: a claim that finds its shard full is impossible.
use Rattle.std.proofs.Common.{List, [], ap, arith, get_or, inl, inr, length, map, max, refl, set, subst, suc, sum, sym, take, zero, ℕ, ◌*◌, ◌+◌, ◌-◌, ◌<◌, ◌∙◌, ◌∷◌, ◌≡◌, ◌≢◌, ◌≤◌, ◌⊎◌, ⊎_elim}
use Rattle.std.proofs.lemmas.Bool.{cases_eq, cases_order}
use Rattle.std.proofs.lemmas.List.{get_or-map, length-map}
use Rattle.std.proofs.lemmas.List.Sums.{sum_by_more}
use Rattle.std.specs.Prelude.{◌↔◌}
use Rattle.mb_claims.proofs.Pigeonhole.{fewer}
use Rattle.mb_claims.proofs.ProbeSteps.{shard_there}
use Rattle.mb_claims.proofs.RootKnows.{reached_at_home}
use Rattle.mb_claims.specs.Closed.{IsClosed}
use Rattle.mb_claims.specs.Limits.{most_words}
use Rattle.mb_claims.specs.Notes.{IsCrowded, note}
use Rattle.mb_claims.specs.Probe.{Holds, shard_of, start_of}
use Rattle.mb_claims.specs.declared.views.RootView.{RootView}
use Rattle.mb_claims.specs.loops.Parts.{AreSizes}
use Rattle.mb_claims.specs.loops.Stored.{IsTold, Stores}
use Rattle.mb_tables.specs.Lists.{In}

-- the words of a shard end where the next one begins
shard_step : (sizes : List ℕ) (shard : ℕ) → shard < length sizes →
    start_of sizes shard + get_or sizes shard 0 ≡ start_of sizes (suc shard)
shard_step sizes shard l =
    let next : shard + 1 ≡ suc shard = omega arith in
    sym (sum_by_more (λ x. x) sizes shard 0 l) ∙ ap (λ n. sum (take n sizes)) next

-- a later shard begins where an earlier one has ended
pub later_shard : (sizes : List ℕ) (one other : ℕ) → one < other → other < length sizes →
    start_of sizes one + get_or sizes one 0 ≤ start_of sizes other
later_shard sizes one zero l m = absurd (omega arith)
later_shard sizes one (suc other) l m = ⊎_elim
    (λ (e : one ≡ other).
    subst (λ s. start_of sizes s + get_or sizes s 0 ≤ start_of sizes (suc other)) (sym e)
    (let h = shard_step sizes other (omega arith) in omega arith))
    (λ ne.
    let h = later_shard sizes one other (omega arith) (omega arith) in
    let k = shard_step sizes other (omega arith) in omega arith)
    (cases_eq one other)

-- a place lies in one shard alone
pub one_shard : (sizes : List ℕ) (one other place : ℕ) →
    start_of sizes one ≤ place → place < start_of sizes one + get_or sizes one 0 →
    start_of sizes other ≤ place → place < start_of sizes other + get_or sizes other 0 →
    one ≡ other
one_shard sizes one other place a b c d =
    let first = shard_there sizes one (place - start_of sizes one) (omega arith) in
    let second = shard_there sizes other (place - start_of sizes other) (omega arith) in
    ⊎_elim
    (λ e. e)
    (λ s. ⊎_elim
    (λ l. let h = later_shard sizes one other l second in absurd (omega arith))
    (λ l. let h = later_shard sizes other one l first in absurd (omega arith))
    s)
    (cases_order one other)

-- the old words of a shard hold a key each at most, and the new ones, which aren't fewer, would
-- all hold other keys of them
pub not_crowded : (old new words keys : List ℕ) (root : RootView) → Stores old words keys →
    IsClosed root → root.sizes ≡ new → length new ≡ length old →
    ((shard : ℕ) → get_or old shard 0 ≤ get_or new shard 0) →
    ((key : ℕ) → In key root.gathered → (place : ℕ) × Holds words place key) →
    (key place : ℕ) → Holds words place key → IsCrowded new key root.notes → ⊥
not_crowded old new words keys root stores closed sizes count larger known key place holds crowded =
    let shard : ℕ = shard_of old key in
    let size : ℕ = get_or old shard 0 in
    let same_shard : (k : ℕ) → shard_of new k ≡ shard_of old k =
    λ k. ap (λ n. Rattle.std.proofs.Common.◌%◌ k n) count in
    let wide : ℕ = get_or new (shard_of new key) 0 in
    let home = reached_at_home old words key place (stores.reached place key holds) in
    let P : ℕ → ℕ → Type 0 = λ word q.
    (other : ℕ) × In (note (start_of new (shard_of new key) + word) other) root.notes
    × (other ≢ key) × (shard_of old other ≡ shard) × Holds words (start_of old shard + q) other
    × (q < size) in
    let many : wide < size = fewer P wide size (place - start_of old shard)
    (λ word l.
    let t = crowded word l in
    let known_at =
    known t.0 (closed.gathered (note (start_of new (shard_of new key) + word) t.0) t.1) in
    let at_home = closed.home (note (start_of new (shard_of new key) + word) t.0) t.1 in
    let mine : shard_of old t.0 ≡ shard =
    sym (same_shard t.0) ∙ one_shard new (shard_of new t.0) (shard_of new key)
    (start_of new (shard_of new key) + word)
    (subst (λ z. start_of z (shard_of z t.0) ≤ start_of new (shard_of new key) + word)
    sizes at_home.low)
    (subst (λ z. start_of new (shard_of new key) + word
    < start_of z (shard_of z t.0) + get_or z (shard_of z t.0) 0) sizes at_home.high)
    (omega arith) (omega arith)
    ∙ same_shard key in
    let there = reached_at_home old words t.0 known_at.0
    (stores.reached known_at.0 t.0 known_at.1) in
    let low : start_of old shard ≤ known_at.0 =
    subst (λ s. start_of old s ≤ known_at.0) mine there.0 in
    let high : known_at.0 < start_of old shard + size =
    subst (λ s. known_at.0 < start_of old s + get_or old s 0) mine there.1 in
    let back : known_at.0 ≡ start_of old shard + (known_at.0 - start_of old shard) =
    omega arith in (
      known_at.0 - start_of old shard,
      (t.0, t.1, t.2, mine, subst (λ p. Holds words p t.0) back known_at.1, omega arith),
    ))
    (λ word q l h. h.5)
    (λ word q l h e.
    let at : start_of old shard + q ≡ place = omega (arith, home.0) in
    h.2 (sym (h.4).word ∙ ap (λ p. get_or words p 0) at ∙ holds.word))
    (λ one other q l m h k.
    let same : h.0 ≡ k.0 = sym (h.4).word ∙ (k.4).word in
    let places : start_of new (shard_of new key) + one ≡ start_of new (shard_of new key) + other =
    closed.apart (note (start_of new (shard_of new key) + one) h.0)
    (note (start_of new (shard_of new key) + other) k.0) h.1 k.1 same in
    omega arith)
    (omega (arith, home.0, home.1)) in
    let fits : size ≤ wide =
    subst (λ s. size ≤ get_or new s 0) (sym (same_shard key)) (larger shard) in omega arith

-- so the same keys are gathered
pub grown_keys : (old new words keys : List ℕ) (root : RootView) → Stores old words keys →
    IsClosed root → root.sizes ≡ new → length new ≡ length old →
    ((shard : ℕ) → get_or old shard 0 ≤ get_or new shard 0) →
    ((key : ℕ) → In key root.gathered → (place : ℕ) × Holds words place key) →
    ((place key : ℕ) → Holds words place key → IsTold new key root.notes) →
    (key : ℕ) → In key root.gathered ↔ In key keys
grown_keys old new words keys root stores closed sizes count larger known told key = (
  (λ i. let h = known key i in (stores.stored key (h.1).key_is).1 h),
  (λ i.
      let pos : key ≢ 0 = λ e. stores.keys_are (subst (λ k. In k keys) e i) in
      let h = (stores.stored key pos).0 i in
      ⊎_elim
      (λ t. closed.gathered (note t.0 key) t.1)
      (λ t. absurd (not_crowded old new words keys root stores closed sizes count larger known
      key h.0 h.1 t))
      (told h.0 key h.1)),
)

-- widened sizes are sizes, where none is widened past the most words
pub widened_fit : (words : ℕ) (sizes : List ℕ) → words ≤ most_words → AreSizes sizes →
    AreSizes (map (max words) sizes)
widened_fit words sizes small fit =
    let count : length (map (max words) sizes) ≡ length sizes = length-map sizes (max words) in
    record {
      some = omega (arith, count, fit.some);
      few = omega (arith, count, fit.few);
      each = λ shard l.
          let there : shard < length sizes = omega arith in
          let size = get_or-map (max words) sizes shard 0 0 there in
          let old = fit.each shard there in
          (omega (arith, size, old.0), omega (arith, size, old.1));
    }
