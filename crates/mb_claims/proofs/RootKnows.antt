-- Where no pass is open, the root has gathered exactly the stored keys.
use Rattle.std.proofs.Common.{List, [], ap, arith, get_or, length, refl, set, subst, sym, ℕ, ◌+◌, ◌/◌, ◌<◌, ◌∙◌, ◌≡◌, ◌≢◌, ◌≤◌}
use Rattle.std.proofs.lemmas.Nat.{mod_below}
use Rattle.std.proofs.lemmas.List.{set-get_or}
use Rattle.std.specs.Prelude.{◌↔◌}
use mathlib.Core.Option.{none, some}
use Rattle.atomic_table.proofs.Lists.{set_again}
use Rattle.atomic_table.specs.Table.{Allows, Me, keeps, step}
use Rattle.mb_claims.proofs.Occurrences.{AreDistinctKeys-occurs, In-occurring, In-occurs, occurrences-at, occurrences-le_one, place_of}
use Rattle.mb_claims.proofs.SeatSums.{sum_by-one}
use Rattle.mb_claims.proofs.RootSteps.{root_seat}
use Rattle.mb_claims.specs.ClaimRule.{AreStoredOnce, IsClaimed, Knows}
use Rattle.mb_claims.specs.ClaimStep.{looks}
use Rattle.mb_claims.specs.Closed.{IsClosed}
use Rattle.mb_claims.specs.Lists.{occurrences}
use Rattle.mb_claims.specs.Probe.{Holds, IsReached, probe, shard_of, start_of}
use Rattle.mb_claims.specs.View.{keys_of}
use Rattle.mb_claims.specs.declared.views.RootView.{RootView}
use Rattle.mb_claims.specs.declared.views.View.{View}
use Rattle.mb_claims.specs.declared.views.View.TheVariants.{OfPass, OfRoot, Spent}
use Rattle.mb_claims.specs.loops.Stored.{Stores}
use Rattle.mb_tables.specs.Lists.{In}

-- a key is stored once at most
pub stored_once : (words : List ℕ) → AreStoredOnce words → (key : ℕ) → key ≢ 0 →
    occurrences key words ≤ 1
stored_once words once key pos =
    occurrences-le_one key words (λ i j l m e f.
    once key i j
    (record { within = l; key_is = pos; word = e })
    (record { within = m; key_is = pos; word = f }))

-- a place on the probe path of a key is in the key's shard
pub reached_at_home : (sizes words : List ℕ) (key place : ℕ) → IsReached sizes words key place →
    (start_of sizes (shard_of sizes key) ≤ place)
    × (place < start_of sizes (shard_of sizes key) + get_or sizes (shard_of sizes key) 0)
reached_at_home sizes words key place r =
    let size : ℕ = get_or sizes (shard_of sizes key) 0 in
    let s : r.steps < size = r.short in
    let low = mod_below (key / length sizes + r.steps) size (omega arith) in
    let there : place ≡ probe sizes key r.steps = r.there in
    (omega (arith, there), omega (arith, there, low))

module _ (sizes words : List ℕ) (views : List View) (rule : IsClaimed sizes words views)
    (seat : ℕ) (root : RootView) (at : Knows views seat (OfRoot root))
    (none_open : root.opened ≡ []) where
  -- no other seat answers for a key
  others_have_none : (key other : ℕ) (view : View) → Knows views other view → other ≢ seat →
      occurrences key (keys_of view) ≡ 0
  unfolding In
  others_have_none key other (OfRoot second) k ne =
      absurd (ne (rule.numbered.only other second k ∙ sym (rule.numbered.only seat root at)))
  others_have_none key other (OfPass pass) k ne =
      let h = root_seat views seat root rule.numbered at in
      let same : rule.numbered.root.opened ≡ [] =
      ap (λ (r : RootView). r.opened) (sym h.1) ∙ none_open in
      absurd (subst (In pass.number) same (rule.numbered.open_pass other pass k))
  others_have_none key other Spent k ne = refl

  -- each key is gathered as often as it is stored
  gathered_often : (key : ℕ) → key ≢ 0 → occurrences key root.gathered ≡ occurrences key words
  gathered_often key pos =
      sym (sum_by-one (λ v. occurrences key (keys_of v)) views seat (OfRoot root) at
      (λ other view k ne. others_have_none key other view k ne))
      ∙ rule.counted.often key pos

  -- the gathered keys are exactly the stored ones
  pub gathered_is_stored : (key : ℕ) → key ≢ 0 →
      In key root.gathered ↔ ((place : ℕ) × Holds words place key)
  gathered_is_stored key pos = (
    (λ i.
        let many = In-occurs key root.gathered i in
        let p =
        place_of key words (In-occurring key words (omega (arith, gathered_often key pos))) in
        (p.0, record { within = p.1; key_is = pos; word = p.2 })),
    (λ h.
        let many = occurrences-at key h.0 words (h.1).within (h.1).word in
        In-occurring key root.gathered (omega (arith, gathered_often key pos))),
  )

  -- so the words store the gathered keys
  pub words_store : Stores sizes words root.gathered
  words_store = record {
    total = rule.sized.total;
    reached = rule.reached;
    once = rule.once;
    keys_are = rule.counted.keys seat (OfRoot root) at;
    stored = gathered_is_stored;
  }

  pub root_is_closed : IsClosed root
  root_is_closed = record {
    once = AreDistinctKeys-occurs root.gathered (λ n i.
        let pos : n ≢ 0 = λ e.
        rule.counted.keys seat (OfRoot root) at (subst (λ k. In k root.gathered) e i) in
        let few = stored_once words rule.once n pos in omega (arith, gathered_often n pos));
    keys = rule.counted.keys seat (OfRoot root) at;
    gathered = λ note i.
        let h = rule.noted seat (OfRoot root) at note i in
        (gathered_is_stored note.key h.key_is).1 (note.place, h);
    home = λ note i.
        let h = rule.noted seat (OfRoot root) at note i in
        let p = reached_at_home sizes words note.key note.place
        (rule.reached note.place note.key h) in
        let same : root.sizes ≡ sizes = rule.sized.shared seat (OfRoot root) at in
        record {
          low = subst (λ z. start_of z (shard_of z note.key) ≤ note.place) (sym same) p.0;
          high =
              subst (λ z. note.place
              < start_of z (shard_of z note.key) + get_or z (shard_of z note.key) 0)
              (sym same) p.1;
        };
    apart = λ one other i j e.
        let h = rule.noted seat (OfRoot root) at one i in
        let l = rule.noted seat (OfRoot root) at other j in
        rule.once one.key one.place other.place h (subst (Holds words other.place) (sym e) l);
  }

-- a load of a word by the root changes nothing and keeps the rule
pub looks-kept : {S : Type 0} (sizes : List ℕ) (slots seat word : ℕ) (me : Me S View)
    (root : RootView) → me.0 ≡ OfRoot root →
    Allows (λ s. IsClaimed sizes s.words s.views) slots seat me word (λ n. n)
    (looks (step slots word 0 0 none) me)
looks-kept sizes slots seat word me root is s rule homes at range = (
  me.0,
  keeps,
  tt,
  subst (λ ws. IsClaimed sizes ws (set s.views seat me.0)) (sym (set-get_or s.words word 0))
      (subst (λ vs. IsClaimed sizes s.words vs) (sym (set_again s.views seat me.0 at)) rule),
  (
    refl,
    (λ other same none_open.
        root_is_closed sizes s.words s.views rule seat other (at ∙ ap some same) none_open),
  ),
)
