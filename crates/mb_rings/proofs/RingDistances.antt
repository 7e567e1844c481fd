-- Ring k ascends, and has the tables at distance k from the start.
use Rattle.std.proofs.Common.{List, Some, [], ap, arith, inl, inr, length, length-append, refl, slice_get, subst, suc, sym, zero, ℕ, ℤ, ◌++◌, ◌+◌, ◌-◌, ◌<◌, ◌∙◌, ◌∷◌, ◌≡◌, ◌≤◌, ◌⊎◌}
use Rattle.mb_matrix.specs.Ascending.{Ascends}
use Rattle.mb_rings.proofs.RingEnds.{rings_end}
use Rattle.mb_rings.proofs.RingSteps.{In-with_next, last_ring-with_next, length-rings_to, next_ring-ascends, next_ring-only, rings_to-more, rings_to-step, with_next-cases}
use Rattle.mb_rings.specs.Distance.{IsAtDistance, IsInSteps}
use Rattle.mb_rings.specs.Ring.{Ring, last_ring, next_ring, rings_to, rings_within, tables_of, with_next}
use Rattle.mb_tables.proofs.ListLaws.{get-front, get-last, place-within}
use Rattle.mb_tables.specs.Chain.{Chain}
use Rattle.mb_tables.specs.Lists.{In}
use Rattle.mb_tables.specs.Step.{OneApart}

module _ (moves : List (List ℤ)) where
  -- no step
  in_steps-none : (u : List ℕ) → IsInSteps moves u 0 u
  unfolding Chain
  in_steps-none u = ([], refl, refl)

  -- one step more at the end of a chain
  chain-more : (u : List ℕ) (tables : List (List ℕ)) (v w : List ℕ) → Chain moves u tables v →
      OneApart moves v w → Chain moves u (tables ++ w ∷ []) w
  unfolding Chain
  chain-more u [] v w e a = (subst (λ x. OneApart moves x w) (sym e) a, refl)
  chain-more u (next ∷ tables) v w c a = (c.0, chain-more next tables v w c.1 a)

  -- and so a table in one step more
  in_steps-more : (u : List ℕ) (n : ℕ) (v w : List ℕ) → IsInSteps moves u n v →
      OneApart moves v w → IsInSteps moves u (suc n) w
  in_steps-more u n v w h a =
      let e = length-append h.0 (w ∷ []) in
      let f = h.1 in
      (h.0 ++ w ∷ [], omega arith, chain-more u h.0 v w h.2 a)

module _ (fiber : Ring) (moves : List (List ℤ)) (start : List ℕ) where
  -- rings 0 to k
  abbrev to : ℕ → List Ring
  to k = rings_to fiber moves start k

  -- ring k
  abbrev ring_at : ℕ → Ring
  ring_at k = last_ring (to k)

  -- a table of ring k is in k steps
  pub ring-steps : (k : ℕ) (v : List ℕ) → In v (ring_at k) → IsInSteps moves start k v
  unfolding rings_to last_ring In
  ring-steps zero v (inl e) =
      subst (IsInSteps moves start 0) (sym e) (in_steps-none moves start)
  ring-steps zero v (inr i) = absurd i
  ring-steps (suc k) v i =
      let near =
      (next_ring-only fiber moves (to k) v
      (subst (λ ring. In v ring) (last_ring-with_next fiber moves (to k)) i)).1 in
      in_steps-more moves start k near.0 v (ring-steps k near.0 near.1) near.2

  -- the tables of rings 0 to k are among those of rings 0 to more
  pub tables-more : (k j : ℕ) (v : List ℕ) → In v (tables_of (to k)) → In v (tables_of (to (k + j)))
  unfolding rings_to
  tables-more k zero v i =
      let e : k ≡ k + 0 = omega arith in subst (λ n. In v (tables_of (to n))) e i
  tables-more k (suc j) v i =
      let e : suc (k + j) ≡ k + suc j = omega arith in
      subst (λ n. In v (tables_of (to n))) e
      (In-with_next fiber moves (to (k + j)) v (tables-more k j v i))

  -- a table of rings 0 to k is in one of them
  pub some-ring : (k : ℕ) (v : List ℕ) → In v (tables_of (to k)) →
      (j : ℕ) × (j ≤ k) × In v (ring_at j)
  unfolding rings_to last_ring In
  some-ring zero v (inl e) = (0, omega arith, inl e)
  some-ring zero v (inr i) = absurd i
  some-ring (suc k) v i =
      elim (with_next-cases fiber moves (to k) v i) [
        | inl j ↦ let r = some-ring k v j in (r.0, omega arith, r.2)
        | inr j ↦ (
          suc k,
          omega arith,
          subst (λ ring. In v ring) (sym (last_ring-with_next fiber moves (to k))) j,
        )
      ]

  -- a table of ring k is in none of rings 0 to fewer
  ring-new : (k n : ℕ) (v : List ℕ) → In v (ring_at k) → In v (tables_of (to n)) → k ≤ n
  unfolding rings_to
  ring-new zero n v i j = omega arith
  ring-new (suc k) n v i j = by (cases n k)
    where
      cases : (a b : ℕ) → (a ≤ b) ⊎ (b < a)
      cases a b = grind arith

      by : (n ≤ k) ⊎ (k < n) → suc k ≤ n
      by (inl l) =
          let e : n + (k - n) ≡ k = omega arith in
          let there =
          subst (λ m. In v (tables_of (to m))) e (tables-more n (k - n) v j) in
          absurd ((next_ring-only fiber moves (to k) v
          (subst (λ ring. In v ring) (last_ring-with_next fiber moves (to k)) i)).2 there)
      by (inr l) = omega arith

  -- where steps stay in the fiber, a chain from a table of rings 0 to k leads into as many more
  chain-rings : ((u v : List ℕ) → In u fiber → OneApart moves u v → In v fiber) → (k : ℕ)
      (u : List ℕ) (tables : List (List ℕ)) (v : List ℕ) → In u fiber →
      In u (tables_of (to k)) → Chain moves u tables v →
      In v (tables_of (to (k + length tables)))
  unfolding Chain
  chain-rings closed k u [] v h i e =
      let f : k ≡ k + 0 = omega arith in
      subst (λ n. In v (tables_of (to n))) f (subst (λ w. In w (tables_of (to k))) e i)
  chain-rings closed k u (next ∷ tables) v h i c =
      let j = closed u next h c.0 in
      let f : suc k + length tables ≡ k + suc (length tables) = omega arith in
      subst (λ n. In v (tables_of (to n))) f
      (chain-rings closed (suc k) next tables v j
      (rings_to-step fiber moves start k u next i c.0 j) c.1)

  -- so a table in n steps stands in rings 0 to n
  steps-rings : ((u v : List ℕ) → In u fiber → OneApart moves u v → In v fiber) →
      In start fiber → (n : ℕ) (v : List ℕ) → IsInSteps moves start n v →
      In v (tables_of (to n))
  unfolding rings_to In
  steps-rings closed s n v h =
      let e : 0 + length h.0 ≡ n = let f = h.1 in omega arith in
      subst (λ m. In v (tables_of (to m))) e
      (chain-rings closed 0 start h.0 v s (inl refl) h.2)

  -- ring k has the tables at distance k
  ring-distance : ((u v : List ℕ) → In u fiber → OneApart moves u v → In v fiber) →
      In start fiber → (k : ℕ) (v : List ℕ) → In v (ring_at k) → IsAtDistance moves start k v
  ring-distance closed s k v i = record {
    there = ring-steps k v i;
    least = λ m h. ring-new k m v i (steps-rings closed s m v h);
  }

  -- and no others
  distance-ring : ((u v : List ℕ) → In u fiber → OneApart moves u v → In v fiber) →
      In start fiber → (k : ℕ) (v : List ℕ) → IsAtDistance moves start k v → In v (ring_at k)
  distance-ring closed s k v h =
      let r = some-ring k v (steps-rings closed s k v h.there) in
      let low = h.least r.0 (ring-steps r.0 v r.2) in
      let high = r.1 in
      let e : r.0 ≡ k = omega arith in
      subst (λ n. In v (ring_at n)) e r.2

  -- ring k stands at place k
  get-ring_at : (k : ℕ) → slice_get (to k) k ≡ Some (ring_at k)
  unfolding rings_to last_ring with_next
  get-ring_at zero = refl
  get-ring_at (suc k) =
      ap (slice_get (to (suc k))) (sym (length-rings_to fiber moves start k))
      ∙ get-last (to k) (next_ring fiber moves (to k))
      ∙ ap Some (sym (last_ring-with_next fiber moves (to k)))

  -- and also among more rings
  get-rings_to : (k j : ℕ) → slice_get (to (k + j)) k ≡ Some (ring_at k)
  get-rings_to k j =
      let more = rings_to-more fiber moves start k j in
      let e = length-rings_to fiber moves start k in
      ap (λ rings. slice_get rings k) more.1
      ∙ get-front (to k) more.0 k (omega arith) ∙ get-ring_at k

  -- the ring at place k of the rings is ring k
  place-ring : Ascends fiber → In start fiber → (k : ℕ) (ring : Ring) →
      slice_get (rings_within fiber moves start) k ≡ Some ring → ring ≡ ring_at k
  place-ring a s k ring e =
      let end = rings_end fiber moves start a s in
      let f : slice_get (to end.0) k ≡ Some ring =
      ap (λ rings. slice_get rings k) (sym end.3) ∙ e in
      let l = place-within (to end.0) k ring f in
      let n = length-rings_to fiber moves start end.0 in
      let long : k + (end.0 - k) ≡ end.0 = omega arith in
      let g = ap (λ m. slice_get (to m) k) (sym long) ∙ get-rings_to k (end.0 - k) in
      let h : Some ring ≡ Some (ring_at k) = sym f ∙ g in cc

  -- ring k ascends
  ring_at-ascends : Ascends fiber → (k : ℕ) → Ascends (ring_at k)
  unfolding rings_to last_ring Ascends In
  ring_at-ascends a zero = ((λ v i. absurd i), tt)
  ring_at-ascends a (suc k) =
      subst Ascends (sym (last_ring-with_next fiber moves (to k)))
      (next_ring-ascends fiber moves (to k) a)

  -- the ring at place k ascends
  pub rings-ascend : Ascends fiber → In start fiber → (k : ℕ) (ring : Ring) →
      slice_get (rings_within fiber moves start) k ≡ Some ring → Ascends ring
  rings-ascend a s k ring e =
      subst Ascends (sym (place-ring a s k ring e)) (ring_at-ascends a k)

  -- the ring at place k has exactly the tables at distance k
  pub rings-distance : Ascends fiber → In start fiber →
      ((u v : List ℕ) → In u fiber → OneApart moves u v → In v fiber) → (k : ℕ) (ring : Ring) →
      slice_get (rings_within fiber moves start) k ≡ Some ring → (v : List ℕ) →
      (In v ring → IsAtDistance moves start k v) × (IsAtDistance moves start k v → In v ring)
  rings-distance a s closed k ring e v =
      let same = place-ring a s k ring e in (
        (λ i. ring-distance closed s k v (subst (λ r. In v r) same i)),
        (λ h. subst (λ r. In v r) (sym same) (distance-ring closed s k v h)),
      )
