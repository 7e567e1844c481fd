-- What the workers of a round do together.
use Rattle.std.proofs.Common.{All, List, Some, ap, arith, false, get_or, inl, inr, length, reverse, slice_get, subst, sym, ℕ, ℤ, ◌++◌, ◌+◌, ◌<◌, ◌∙◌, ◌≡◌, ◌⊎◌, ⊎_elim}
use Rattle.std.proofs.lemmas.Option.{get_or_from_slice_get, slice_get-get_or}
use Rattle.mb_claims.specs.Closed.{IsClosed}
use Rattle.mb_claims.specs.Notes.{IsNoted, note}
use Rattle.mb_claims.specs.declared.views.RootView.{RootView}
use Rattle.mb_keyed.proofs.ClaimSteps.{claims-none}
use Rattle.mb_keyed.proofs.KeyedClaims.{claims-both}
use Rattle.mb_keyed.proofs.ShareSteps.{near-covered, near-only}
use Rattle.mb_keyed.specs.declared.gathered.Left.{Left}
use Rattle.mb_keyed.specs.declared.ranked.Ranked.{Ranked}
use Rattle.mb_keyed.specs.declared.worker.Worker.{Worker}
use Rattle.mb_keyed.specs.loops.Rounds.{AreWorked, IsListed, IsNearBefore, IsNearShare, IsRound}
use Rattle.mb_keyed.specs.loops.Worked.{Claims, IsIdle, keys_in, keys_won, notes_made, numbers}
use Rattle.mb_matrix.specs.declared.digit.Digit.{Digit}
use Rattle.mb_rings.proofs.ListElements.{In-flat, flat-In}
use Rattle.mb_rings.specs.Claimed.{IsKeyOf}
use Rattle.mb_rings.specs.Ring.{Ring}
use Rattle.mb_tables.proofs.ListLaws.{In-left, In-map, In-map_range, In-place, place-in, place-within, some_at}
use Rattle.mb_tables.specs.Lists.{In}
use Rattle.mb_tables.specs.Step.{IsNear}

-- before the first share
pub worked-none : (digits : List Digit) (moves : List (List ℤ)) (ring : Ring) (k n i : ℕ)
    (worker : Worker) → Claims (IsKeyOf digits (IsNearBefore moves ring k n i 0)) worker worker
worked-none digits moves ring k n i worker =
    claims-none worker (IsKeyOf digits (IsNearBefore moves ring k n i 0))
    (λ key h. let l : h.1.0 < 0 = h.1.1 in omega arith)

-- one share more
pub worked-share : (digits : List Digit) (moves : List (List ℤ)) (ring : Ring) (k n i end : ℕ)
    (before middle after : Worker) →
    Claims (IsKeyOf digits (IsNearBefore moves ring k n i end)) before middle →
    Claims (IsKeyOf digits (IsNearShare moves ring k n i end)) middle after →
    Claims (IsKeyOf digits (IsNearBefore moves ring k n i (end + 1))) before after
worked-share digits moves ring k n i end before middle after f g =
    claims-both digits (IsNearBefore moves ring k n i end) (IsNearShare moves ring k n i end)
    (IsNearBefore moves ring k n i (end + 1)) before middle after
    (λ v. ⊎_elim
    (λ h. let l : h.0 < end = h.1 in (h.0, omega arith, h.2))
    (λ h. (end, omega arith, h)))
    (λ v h. by v h (cases h.0 end h.1)) f g
  where
    cases : (w e : ℕ) → w < e + 1 → (w < e) ⊎ (w ≡ e)
    cases w e l = grind arith

    by : (v : List ℕ) (h : IsNearBefore moves ring k n i (end + 1) v) →
        (h.0 < end) ⊎ (h.0 ≡ end) →
        IsNearBefore moves ring k n i end v ⊎ IsNearShare moves ring k n i end v
    by v h (inl l) = inl (h.0, l, h.2)
    by v h (inr e) = inr (subst (λ w. IsNearShare moves ring k n i w v) e h.2)

module _ (digits : List Digit) (moves : List (List ℤ)) (ring : Ring) (k n : ℕ) (shares : 0 < k)
    (passes : 0 < n) (old new : List Worker) (before : length old ≡ n) (after : length new ≡ n)
    (idle : All IsIdle old)
    (each : (i : ℕ) (d : Worker) → i < length old →
    Claims (IsKeyOf digits (IsNearBefore moves ring k n i k)) (get_or old i d) (get_or new i d))
  where
    -- what the worker at a place claimed
    claimed : (i : ℕ) (x : Worker) → slice_get new i ≡ Some x →
        Claims (IsKeyOf digits (IsNearBefore moves ring k n i k)) (get_or old i x) x
    claimed i x e =
        let l : i < length new = place-within new i x e in
        subst (λ (w : Worker). Claims (IsKeyOf digits (IsNearBefore moves ring k n i k))
        (get_or old i x) w) (get_or_from_slice_get new i x x e) (each i x (omega arith))

    -- it won keys one step from the ring alone
    won-near : (key : ℕ) → In key (keys_won new) → IsKeyOf digits (IsNear moves ring) key
    unfolding In
    won-near key h =
        let r = In-flat (λ (w : Worker). w.pass.knows.won) key new h in
        let i : ℕ = r.0 in
        let x : Worker = r.1 in
        let l : i < length new = place-within new i x r.2 in
        ⊎_elim
        (λ was. absurd (subst (λ list. In key list) (idle i x (omega arith)).won was))
        (λ s. (s.0, near-only moves ring k n i k s.0 s.1, s.2))
        ((claimed i x r.2).won key r.3)

    -- each key one step from the ring is noted, unless some worker left one
    told-near : All (λ worker. worker.is_left ≡ false) new → (key : ℕ) →
        IsKeyOf digits (IsNear moves ring) key → IsNoted (notes_made new) key
    told-near none key h =
        let c = near-covered moves ring k n shares passes h.0 h.1 in
        let i : ℕ = c.0 in
        let l : i < length new = omega (arith, c.1) in
        let there = some_at new i l in
        let x : Worker = there.0 in
        let done : x.is_left ≡ false =
        subst (λ (w : Worker). w.is_left ≡ false) (get_or_from_slice_get new i x x there.1)
        (none i x l) in
        let told = ((claimed i x there.1).told done).1 key (h.0, c.2, h.2) in (
          told.0,
          flat-In (λ (w : Worker). w.pass.knows.notes) (note told.0 key) new i x there.1
              told.1,
        )

    -- each lists the keys that it won
    all-listed : All IsListed new
    all-listed i d l e =
        let was = idle i d (omega arith) in
        ((each i d (omega arith)).listed e).1
        (ap (λ (list : List Ranked). reverse (keys_in list)) was.found ∙ sym was.won)

    -- all of them together
    pub worked-all : AreWorked (IsKeyOf digits (IsNear moves ring)) new
    worked-all = record { won = won-near; told = told-near; listed = all-listed }

    -- each pass keeps its number
    pub numbers-kept : (m : ℕ) → In m (numbers old) → In m (numbers new)
    numbers-kept m h =
        let r = In-map_range (λ (w : Worker). w.pass.knows.number) m old h in
        let x : Worker = r.0 in
        let p = In-place old x r.1 in
        let i : ℕ = p.0 in
        let l : i < length old = place-within old i x p.1 in
        let y : Worker = get_or new i x in
        let there : slice_get new i ≡ Some y = slice_get-get_or new i x (omega arith) in
        let same : y.pass.knows.number ≡ m =
        (each i x l).number
        ∙ ap (λ (w : Worker). w.pass.knows.number) (get_or_from_slice_get old i x x p.1)
        ∙ sym r.2 in
        subst (λ t. In t (numbers new)) same
        (In-map (λ (w : Worker). w.pass.knows.number) y new (place-in new i y there))

-- what a round does, when all passes are gathered
pub round-done : (IsSought : ℕ → Type 0) (before old new : List ℕ) (middle after : RootView)
    (left : Left) (worked workers : List Worker) → workers ≡ worked → AreWorked IsSought worked →
    middle.gathered ≡ before → after.gathered ≡ keys_won workers ++ middle.gathered →
    after.notes ≡ notes_made workers ++ middle.notes → IsClosed after →
    (left.is_left ≡ false → All (λ worker. worker.is_left ≡ false) workers) →
    (left.is_short ≡ false → new ≡ old ++ reverse (keys_won workers)) →
    IsRound IsSought before after.gathered old new left
round-done IsSought before old new middle after left worked workers is was same gathered notes
    closed done listed =
    let h : AreWorked IsSought workers = subst (AreWorked IsSought) (sym is) was in
    record {
      won = keys_won workers;
      gathered = gathered ∙ ap (λ list. keys_won workers ++ list) same;
      once = closed.once;
      sought = h.won;
      listed = listed;
      told = λ e key s.
          let n = h.told (done e) key s in
          closed.gathered (note n.0 key)
          (subst (λ list. In (note n.0 key) list) (sym notes)
          (In-left (note n.0 key) (notes_made workers) middle.notes n.1));
    }
