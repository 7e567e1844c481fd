-- A search from ring to ring, by the tables that it has met and those of the last ring, in any
-- order.
use Rattle.std.proofs.Common.{List, [], arith, inl, inr, length, subst, suc, sym, ℕ, ℤ, ◌++◌, ◌<◌, ◌∷◌, ◌≡◌, ◌≤◌}
use Rattle.mb_rings.proofs.DistinctTables.{In-permutation, distinct-apart, distinct-append, distinct-permutation, length-le_distinct, permutation-In}
use Rattle.mb_rings.proofs.RingEnds.{reached-distinct, reached-joined}
use Rattle.mb_rings.proofs.RingSteps.{In-last, In-with_next, last_ring-with_next, next_ring-has, next_ring-only, rings_to-distinct, rings_to-fiber, rings_to-step, tables_of-with_next, with_next-cases}
use Rattle.mb_rings.proofs.Walking.{IsWalkable}
use Rattle.mb_rings.specs.Ring.{Ring, last_ring, next_ring, rings_to, rings_within, tables_of, with_next}
use Rattle.mb_rings.specs.loops.Found.{AreDistinct, Exceeds, Finds}
use Rattle.mb_tables.proofs.ListLaws.{In-cases, In-left, In-right}
use Rattle.mb_tables.specs.Chain.{Chain}
use Rattle.mb_tables.specs.Lists.{In}
use Rattle.mb_tables.specs.Step.{IsNear, OneApart}

-- the tables that are met are those of rings 0 to the level, each once, and those of the ring to be
-- expanded are the last ring's
pub record IsExplored (fiber : Ring) (moves : List (List ℤ)) (start : List ℕ) (level : ℕ)
    (ring : Ring) (visited : List (List ℕ)) : Type 0 where
  pub only : (v : List ℕ) → In v visited → In v (tables_of (rings_to fiber moves start level))
  pub has : (v : List ℕ) → In v (tables_of (rings_to fiber moves start level)) → In v visited
  pub last : (v : List ℕ) → In v ring → In v (last_ring (rings_to fiber moves start level))
  pub whole : (v : List ℕ) → In v (last_ring (rings_to fiber moves start level)) → In v ring
  pub once : AreDistinct visited

module _ (fiber : Ring) (moves : List (List ℤ)) (start : List ℕ) where
  -- before the first step
  pub explored-start : (ring visited : List (List ℕ)) → ring ≡ start ∷ [] →
      ((v : List ℕ) → In v visited → In v (start ∷ [])) →
      ((v : List ℕ) → In v (start ∷ []) → In v visited) → AreDistinct visited →
      IsExplored fiber moves start 0 ring visited
  unfolding rings_to last_ring In
  explored-start ring visited e only has once = record {
    only = only;
    has = has;
    last = λ v i. subst (In v) e i;
    whole = λ v i. subst (In v) (sym e) i;
    once = once;
  }

  module _ (level : ℕ) (ring : Ring) (visited : List (List ℕ))
      (x : IsExplored fiber moves start level ring visited) where
    -- rings 0 to the level
    abbrev now : List Ring
    now = rings_to fiber moves start level

    -- a table of the ring is of the fiber
    pub explored-fiber : In start fiber → (u : List ℕ) → In u visited → In u fiber
    explored-fiber s u i = rings_to-fiber fiber moves start s level u (x.only u i)

    -- so is one of the ring
    last-fiber : In start fiber → (u : List ℕ) → In u ring → In u fiber
    last-fiber s u i =
        rings_to-fiber fiber moves start s level u (In-last now u (x.last u i))

    -- a new table one step from the ring is in the next ring
    is_next : IsWalkable fiber moves start → (v : List ℕ) → IsNear moves ring v →
        (In v visited → ⊥) → In v (next_ring fiber moves now)
    is_next h v near new =
        next_ring-has fiber moves now v
        (h.closed near.0 v (last-fiber h.begins near.0 near.1) near.2)
        (near.0, x.last near.0 near.1, near.2) (λ i. new (x.has v i))

    -- after the ring is expanded
    pub explored-step : IsWalkable fiber moves start → (after : List (List ℕ)) (found : Ring) →
        Finds (IsNear moves ring) visited after found →
        IsExplored fiber moves start (suc level) found after
    unfolding rings_to
    explored-step h after found f = record {
      only = λ v i. elim (In-cases v visited found
          (permutation-In (visited ++ found) after v f.visited i)) [
            | inl j ↦ In-with_next fiber moves now v (x.only v j)
            | inr j ↦
                subst (In v) (sym (tables_of-with_next fiber moves now))
                (In-right v (tables_of now) (next_ring fiber moves now)
                (is_next h v (f.sought v j) (f.new v j)))
          ];
      has = λ v i. elim (with_next-cases fiber moves now v i) [
        | inl j ↦
            In-permutation (visited ++ found) after v f.visited
            (In-left v visited found (x.has v j))
        | inr j ↦ next-met v j
      ];
      last = λ v i.
          subst (In v) (sym (last_ring-with_next fiber moves now))
          (is_next h v (f.sought v i) (f.new v i));
      whole = λ v i.
          let j = subst (In v) (last_ring-with_next fiber moves now) i in
          let only = next_ring-only fiber moves now v j in
          elim (In-cases v visited found
          (permutation-In (visited ++ found) after v f.visited (next-met v j))) [
            | inl k ↦ absurd (only.2 (x.only v k))
            | inr k ↦ k
          ];
      once =
          distinct-permutation (visited ++ found) after f.visited
          (distinct-append visited found x.once f.once (λ v i j. f.new v j i));
    }
      where
        next-met : (v : List ℕ) → In v (next_ring fiber moves now) → In v after
        next-met v j =
            let only = next_ring-only fiber moves now v j in
            f.all v ((only.1).0, x.whole (only.1).0 (only.1).1, (only.1).2) (h.counts v only.0)

    -- where new tables pass the limit, rings 0 to the next level do
    pub explored-over : IsWalkable fiber moves start → (limit : ℕ) (found : List (List ℕ)) →
        Exceeds (IsNear moves ring) limit visited found →
        limit < length (tables_of (rings_to fiber moves start (suc level)))
    unfolding rings_to
    explored-over h limit found e =
        let few =
        length-le_distinct (visited ++ found) (tables_of (with_next fiber moves now)) e.distinct
        (λ v i. elim (In-cases v visited found i) [
          | inl j ↦ In-with_next fiber moves now v (x.only v j)
          | inr j ↦
              subst (In v) (sym (tables_of-with_next fiber moves now))
              (In-right v (tables_of now) (next_ring fiber moves now)
              (is_next h v (e.sought v j) (λ k. distinct-apart visited found e.distinct v k j)))
        ]) in
        let many = e.many in omega arith

    -- rings 0 to a level no higher have no more tables than are met
    pub explored-few : IsWalkable fiber moves start → (k : ℕ) →
        ((v : List ℕ) → In v (tables_of (rings_to fiber moves start k)) → In v (tables_of now)) →
        length (tables_of (rings_to fiber moves start k)) ≤ length visited
    explored-few h k among =
        length-le_distinct (tables_of (rings_to fiber moves start k)) visited
        (rings_to-distinct fiber moves start h.ascends k) (λ v i. x.has v (among v i))

    -- where the ring is empty, a step from a table that is met leads to another
    explored-closed : IsWalkable fiber moves start → ring ≡ [] → (u v : List ℕ) → In u visited →
        OneApart moves u v → In v visited
    unfolding rings_to In
    explored-closed h e u v i apart =
        let there = h.closed u v (explored-fiber h.begins u i) apart in
        elim (with_next-cases fiber moves now v
        (rings_to-step fiber moves start level u v (x.only u i) apart there)) [
          | inl j ↦ x.has v j
          | inr j ↦
              let near = (next_ring-only fiber moves now v j).1 in
              absurd (subst (In near.0) e (x.whole near.0 near.1))
        ]

    -- and so does a chain
    explored-chain : IsWalkable fiber moves start → ring ≡ [] → (u : List ℕ)
        (tables : List (List ℕ)) (v : List ℕ) → In u visited → Chain moves u tables v →
        In v visited
    unfolding Chain
    explored-chain h e u [] v i c = subst (λ w. In w visited) c i
    explored-chain h e u (next ∷ tables) v i c =
        explored-chain h e next tables v (explored-closed h e u next i c.0) c.1

    -- so all reached tables are met
    pub explored-all : IsWalkable fiber moves start → ring ≡ [] → In start visited →
        (v : List ℕ) → In v (tables_of (rings_within fiber moves start)) → In v visited
    explored-all h e s v i =
        let joined = reached-joined fiber moves start h.ascends h.begins v i in
        explored-chain h e start joined.0 v s joined.1

    -- and they are no more
    pub explored-reached : IsWalkable fiber moves start → ring ≡ [] → In start visited →
        length (tables_of (rings_within fiber moves start)) ≤ length visited
    explored-reached h e s =
        length-le_distinct (tables_of (rings_within fiber moves start)) visited
        (reached-distinct fiber moves start h.ascends h.begins) (explored-all h e s)
