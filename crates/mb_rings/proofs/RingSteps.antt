-- Rings one after the other: what the next one has, and what all of them have.
use Rattle.std.proofs.Common.{Bool, List, [], ap, append-nil, append_assoc, arith, cond, false, inl, inr, length, length-append, not, refl, subst, suc, sym, true, zero, ℕ, ℤ, ◌&&◌, ◌++◌, ◌+◌, ◌∙◌, ◌∷◌, ◌≡◌, ◌⊎◌}
use Rattle.std.proofs.lemmas.Bool.{and_from, and_parts, not-true}
use Rattle.std.proofs.lemmas.List.Concat.{flat_map-append}
use Rattle.std.specs.List.{filter}
use Rattle.mb_matrix.specs.Ascending.{Ascends}
use Rattle.mb_rings.proofs.AscendingTables.{ascends-filter, distinct-ascends}
use Rattle.mb_rings.proofs.DistinctTables.{distinct-append, distinct-cons, distinct-none}
use Rattle.mb_rings.specs.loops.Found.{AreDistinct}
use Rattle.mb_rings.specs.Ring.{Ring, last_ring, next_ring, rings_to, tables_of, with_next}
use Rattle.mb_tables.proofs.JoinedTables.{chain_then, joined_itself}
use Rattle.mb_tables.proofs.ListLaws.{In-cases, In-filter, In-filter_only, In-left, In-right}
use Rattle.mb_tables.specs.Chain.{Chain, Joined}
use Rattle.mb_tables.specs.Lists.{In, stands_in}
use Rattle.mb_tables.specs.Step.{IsNear, OneApart, is_near}
use Rattle.mb_tables.proofs.StepTests.{In-from_stands_in, In-not, IsNear-from_is_near, is_near-yes, stands_in-no}

-- the last of some rings and one more is this one
pub last_ring-push : (rings : List Ring) (ring : Ring) → last_ring (rings ++ ring ∷ []) ≡ ring
unfolding last_ring
last_ring-push [] ring = refl
last_ring-push (first ∷ []) ring = refl
last_ring-push (first ∷ second ∷ rings) ring = last_ring-push (second ∷ rings) ring

-- the tables of some rings and one more
pub tables_of-push : (rings : List Ring) (ring : Ring) →
    tables_of (rings ++ ring ∷ []) ≡ tables_of rings ++ ring
tables_of-push rings ring =
    flat_map-append (λ (r : Ring). r) rings (ring ∷ [])
    ∙ ap (λ more. tables_of rings ++ more) (append-nil ring)

-- a table of the last ring is one of the rings' tables
pub In-last : (rings : List Ring) (u : List ℕ) → In u (last_ring rings) → In u (tables_of rings)
unfolding last_ring In
In-last [] u i = i
In-last (ring ∷ []) u i = In-left u ring [] i
In-last (ring ∷ second ∷ rings) u i =
    In-right u ring (tables_of (second ∷ rings)) (In-last (second ∷ rings) u i)

-- a list passes a test at each element that a filter keeps
pub filter-passes : (p : List ℕ → Bool) (v : List ℕ) (xs : List (List ℕ)) → In v (filter p xs) →
    p v ≡ true
unfolding In
filter-passes p v [] i = absurd i
filter-passes p v (x ∷ xs) i = by (p x) refl i (filter-passes p v xs)
  where
    by : (t : Bool) → p x ≡ t → In v (cond t (x ∷ filter p xs) (filter p xs)) →
        (In v (filter p xs) → p v ≡ true) → p v ≡ true
    by true e (inl f) ih = ap p f ∙ e
    by true e (inr j) ih = ih j
    by false e j ih = ih j

module _ (fiber : Ring) (moves : List (List ℤ)) where
  -- the test that a table of the next ring passes
  abbrev is_next : List Ring → List ℕ → Bool
  is_next rings v = is_near moves (last_ring rings) v && not (stands_in (tables_of rings) v)

  -- a table of the next ring
  pub next_ring-only : (rings : List Ring) (v : List ℕ) → In v (next_ring fiber moves rings) →
      In v fiber × IsNear moves (last_ring rings) v × (In v (tables_of rings) → ⊥)
  unfolding next_ring
  next_ring-only rings v i =
      let both =
      and_parts (is_near moves (last_ring rings) v) (not (stands_in (tables_of rings) v))
      (filter-passes (is_next rings) v fiber i) in (
        In-filter_only (is_next rings) v fiber i,
        IsNear-from_is_near moves (last_ring rings) v both.0,
        In-not (tables_of rings) v (not-true (stands_in (tables_of rings) v) both.1),
      )

  -- and the other way round
  pub next_ring-has : (rings : List Ring) (v : List ℕ) → In v fiber →
      IsNear moves (last_ring rings) v → (In v (tables_of rings) → ⊥) →
      In v (next_ring fiber moves rings)
  unfolding next_ring
  next_ring-has rings v i near new =
      In-filter (is_next rings) v fiber i
      (and_from (is_near moves (last_ring rings) v) (not (stands_in (tables_of rings) v))
      (is_near-yes moves (last_ring rings) v near)
      (ap not (stands_in-no (tables_of rings) v new)))

  -- the next ring ascends as the fiber does
  pub next_ring-ascends : (rings : List Ring) → Ascends fiber →
      Ascends (next_ring fiber moves rings)
  unfolding next_ring
  next_ring-ascends rings a = ascends-filter (is_next rings) fiber a

  -- the tables of the rings with the next one
  pub tables_of-with_next : (rings : List Ring) →
      tables_of (with_next fiber moves rings) ≡ tables_of rings ++ next_ring fiber moves rings
  unfolding with_next
  tables_of-with_next rings = tables_of-push rings (next_ring fiber moves rings)

  -- the last of the rings with the next one
  pub last_ring-with_next : (rings : List Ring) →
      last_ring (with_next fiber moves rings) ≡ next_ring fiber moves rings
  unfolding with_next
  last_ring-with_next rings = last_ring-push rings (next_ring fiber moves rings)

  -- what follows for the tables of the rings with the next one
  pub with_next-cases : (rings : List Ring) (v : List ℕ) →
      In v (tables_of (with_next fiber moves rings)) →
      In v (tables_of rings) ⊎ In v (next_ring fiber moves rings)
  with_next-cases rings v i =
      In-cases v (tables_of rings) (next_ring fiber moves rings)
      (subst (λ list. In v list) (tables_of-with_next rings) i)

  -- the rings' tables are among those of the rings with the next one
  pub In-with_next : (rings : List Ring) (v : List ℕ) → In v (tables_of rings) →
      In v (tables_of (with_next fiber moves rings))
  In-with_next rings v i =
      subst (λ list. In v list) (sym (tables_of-with_next rings))
      (In-left v (tables_of rings) (next_ring fiber moves rings) i)

  -- a table of the fiber one step from the last ring is in the rings or in the next one
  pub near-with_next : (rings : List Ring) (v : List ℕ) → In v fiber →
      IsNear moves (last_ring rings) v → In v (tables_of (with_next fiber moves rings))
  near-with_next rings v i near = by (stands_in (tables_of rings) v) refl
    where
      by : (t : Bool) → stands_in (tables_of rings) v ≡ t →
          In v (tables_of (with_next fiber moves rings))
      by true e = In-with_next rings v (In-from_stands_in (tables_of rings) v e)
      by false e =
          subst (λ list. In v list) (sym (tables_of-with_next rings))
          (In-right v (tables_of rings) (next_ring fiber moves rings)
          (next_ring-has rings v i near (In-not (tables_of rings) v e)))

  -- no table of the rings stands twice, so none of the rings with the next one does
  pub with_next-distinct : (rings : List Ring) → Ascends fiber → AreDistinct (tables_of rings) →
      AreDistinct (tables_of (with_next fiber moves rings))
  with_next-distinct rings a d =
      subst AreDistinct (sym (tables_of-with_next rings))
      (distinct-append (tables_of rings) (next_ring fiber moves rings) d
      (distinct-ascends (next_ring fiber moves rings) (next_ring-ascends rings a))
      (λ v i j. (next_ring-only rings v j).2 i))

  module _ (start : List ℕ) where
    -- the rings' tables are of the fiber
    pub rings_to-fiber : In start fiber → (k : ℕ) (v : List ℕ) →
        In v (tables_of (rings_to fiber moves start k)) → In v fiber
    unfolding rings_to In
    rings_to-fiber s zero v (inl e) = subst (λ u. In u fiber) (sym e) s
    rings_to-fiber s zero v (inr i) = absurd i
    rings_to-fiber s (suc k) v i =
        elim (with_next-cases (rings_to fiber moves start k) v i) [
          | inl j ↦ rings_to-fiber s k v j
          | inr j ↦ (next_ring-only (rings_to fiber moves start k) v j).0
        ]

    -- no table stands twice in the rings
    pub rings_to-distinct : Ascends fiber → (k : ℕ) →
        AreDistinct (tables_of (rings_to fiber moves start k))
    unfolding rings_to In
    rings_to-distinct a zero = distinct-cons start [] (λ i. i) distinct-none
    rings_to-distinct a (suc k) =
        with_next-distinct (rings_to fiber moves start k) a (rings_to-distinct a k)

    -- one step more
    joined-step : (u v : List ℕ) → Joined moves start u → OneApart moves u v →
        Joined moves start v
    unfolding Chain
    joined-step u v h a = chain_then moves start h.0 u v h.1 (v ∷ [], (a, refl))

    -- the rings' tables are joined to the start
    pub rings_to-joined : (k : ℕ) (v : List ℕ) →
        In v (tables_of (rings_to fiber moves start k)) → Joined moves start v
    unfolding rings_to In
    rings_to-joined zero v (inl e) =
        subst (λ u. Joined moves start u) (sym e) (joined_itself moves start)
    rings_to-joined zero v (inr i) = absurd i
    rings_to-joined (suc k) v i =
        let rings = rings_to fiber moves start k in
        elim (with_next-cases rings v i) [
          | inl j ↦ rings_to-joined k v j
          | inr j ↦
              let near = (next_ring-only rings v j).1 in
              joined-step near.0 v
              (rings_to-joined k near.0 (In-last rings near.0 near.1)) near.2
        ]

    -- a step from a table of rings 0 to k leads into rings 0 to k + 1
    pub rings_to-step : (k : ℕ) (u v : List ℕ) →
        In u (tables_of (rings_to fiber moves start k)) → OneApart moves u v → In v fiber →
        In v (tables_of (rings_to fiber moves start (suc k)))
    unfolding rings_to In last_ring
    rings_to-step zero u v (inl e) a i =
        near-with_next ((start ∷ []) ∷ []) v i (u, inl e, a)
    rings_to-step zero u v (inr j) a i = absurd j
    rings_to-step (suc k) u v j a i =
        let rings = rings_to fiber moves start k in
        elim (with_next-cases rings u j) [
          | inl h ↦
              In-with_next (with_next fiber moves rings) v (rings_to-step k u v h a i)
          | inr h ↦
              near-with_next (with_next fiber moves rings) v i
              (u, subst (λ ring. In u ring) (sym (last_ring-with_next rings)) h, a)
        ]

    -- how many rings there are
    pub length-rings_to : (k : ℕ) → length (rings_to fiber moves start k) ≡ suc k
    unfolding rings_to with_next
    length-rings_to zero = refl
    length-rings_to (suc k) =
        let rings = rings_to fiber moves start k in
        let e = length-rings_to k in
        let f = length-append rings (next_ring fiber moves rings ∷ []) in omega arith

    -- the first rings of more rings
    pub rings_to-more : (k j : ℕ) →
        (later : List Ring)
        × (rings_to fiber moves start (k + j) ≡ rings_to fiber moves start k ++ later)
    unfolding rings_to with_next
    rings_to-more k zero =
        let e : k + 0 ≡ k = omega arith in
        ([], ap (rings_to fiber moves start) e ∙ sym (append-nil (rings_to fiber moves start k)))
    rings_to-more k (suc j) =
        let more = rings_to-more k j in
        let e : k + suc j ≡ suc (k + j) = omega arith in
        let next = next_ring fiber moves (rings_to fiber moves start (k + j)) in (
          more.0 ++ next ∷ [],
          ap (rings_to fiber moves start) e
              ∙ ap (λ rings. rings ++ next ∷ []) more.1
              ∙ append_assoc (rings_to fiber moves start k) more.0 (next ∷ []),
        )
