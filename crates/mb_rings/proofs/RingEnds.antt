-- Where the rings end, and which tables they reach.
use Rattle.std.proofs.Common.{Bool, List, [], ap, append-nil, append_assoc, arith, false, inl, inr, length, length-append, refl, subst, suc, sym, take, true, zero, ℕ, ℤ, ◌&&◌, ◌++◌, ◌+◌, ◌-◌, ◌<◌, ◌∙◌, ◌∷◌, ◌≡◌, ◌≤◌, ◌⊎◌}
use Rattle.std.proofs.lemmas.List.Concat.{flat_map-append}
use Rattle.std.proofs.lemmas.List.Folds.{list_all-append}
use Rattle.std.specs.List.{list_all, prefix_len, take_while}
use Rattle.mb_matrix.specs.Ascending.{Ascends}
use Rattle.mb_rings.proofs.DistinctTables.{length-le_distinct}
use Rattle.mb_rings.proofs.RingSteps.{In-with_next, length-rings_to, rings_to-distinct, rings_to-fiber, rings_to-joined, rings_to-more, rings_to-step, tables_of-with_next}
use Rattle.mb_rings.specs.loops.Found.{AreDistinct}
use Rattle.mb_rings.specs.Ring.{Ring, is_filled, next_ring, rings_to, rings_within, tables_of, with_next}
use Rattle.mb_tables.specs.Chain.{Chain, Joined}
use Rattle.mb_tables.specs.Lists.{In}
use Rattle.mb_tables.specs.Step.{OneApart}

-- each ring has a table
abbrev pub AreFilled : List Ring → Type 0
AreFilled rings = list_all is_filled rings ≡ true

-- two parts of which each ring has a table
filled-append : (first second : List Ring) → AreFilled first → AreFilled second →
    AreFilled (first ++ second)
filled-append first second e f =
    list_all-append is_filled first second ∙ ap (λ t. t && list_all is_filled second) e ∙ f

-- an empty ring is among the rings
not-filled : (first later : List Ring) → AreFilled ((first ++ [] ∷ []) ++ later) → ⊥
not-filled first later e =
    let f = sym (list_all-append is_filled (first ++ [] ∷ []) later) ∙ e in
    let g = list_all-append is_filled first ([] ∷ []) in
    by (list_all is_filled first) (list_all is_filled (first ++ [] ∷ []))
    (list_all is_filled later) f g
  where
    both : (t : Bool) → (t && false) ≡ false
    both true = refl
    both false = refl

    by : (s t more : Bool) → (t && more) ≡ true → t ≡ (s && false) → ⊥
    by s true more h k = let m : true ≡ false = k ∙ both s in cc
    by s false more h k = cc

-- the front of filled rings before an empty one
pub take_while-filled : (rings later : List Ring) → AreFilled rings →
    take_while is_filled (rings ++ [] ∷ later) ≡ rings
take_while-filled [] later e = refl
take_while-filled ([] ∷ rings) later e = cc
take_while-filled ((u ∷ ring) ∷ rings) later e =
    let n = prefix_len is_filled (rings ++ [] ∷ later) in
    let f : 1 + n ≡ suc n = omega arith in
    ap (λ m. take m ((u ∷ ring) ∷ (rings ++ [] ∷ later))) f
    ∙ ap (λ more. (u ∷ ring) ∷ more) (take_while-filled rings later e)

-- filled rings are at most as many as their tables
pub length-le_filled : (rings : List Ring) → AreFilled rings →
    length rings ≤ length (tables_of rings)
length-le_filled [] e = omega arith
length-le_filled ([] ∷ rings) e = cc
length-le_filled ((u ∷ ring) ∷ rings) e =
    let ih = length-le_filled rings e in
    let f = length-append ring (tables_of rings) in omega arith

module _ (fiber : Ring) (moves : List (List ℤ)) (start : List ℕ) where
  -- rings 0 to k
  abbrev to : ℕ → List Ring
  to k = rings_to fiber moves start k

  -- the last filled ring among rings 0 to k
  filled-or_ends : (k : ℕ) → AreFilled (to k)
      ⊎ ((j : ℕ) × (j < k) × AreFilled (to j) × (next_ring fiber moves (to j) ≡ []))
  unfolding rings_to with_next
  filled-or_ends zero = inl refl
  filled-or_ends (suc k) =
      elim (filled-or_ends k) [
        | inl f ↦ by f (next_ring fiber moves (to k)) refl
        | inr r ↦ inr (r.0, omega arith, r.2, r.3)
      ]
    where
      by : AreFilled (to k) → (ring : Ring) → next_ring fiber moves (to k) ≡ ring →
          AreFilled (to k ++ next_ring fiber moves (to k) ∷ [])
          ⊎ ((j : ℕ) × (j < suc k) × AreFilled (to j) × (next_ring fiber moves (to j) ≡ []))
      by f [] e = inr (k, omega arith, f, e)
      by f (u ∷ ring) e =
          inl (subst (λ next. AreFilled (to k ++ next ∷ [])) (sym e)
          (filled-append (to k) ((u ∷ ring) ∷ []) f refl))

  -- k + 1 filled rings need as many tables of the fiber
  filled-few : Ascends fiber → In start fiber → (k : ℕ) → AreFilled (to k) →
      suc k ≤ length fiber
  filled-few a s k f =
      let low = length-le_filled (to k) f in
      let e = length-rings_to fiber moves start k in
      let high =
      length-le_distinct (tables_of (to k)) fiber (rings_to-distinct fiber moves start a k)
      (rings_to-fiber fiber moves start s k) in
      omega arith

  -- filled rings after which none comes are the rings within the fiber
  pub rings_within-is : Ascends fiber → In start fiber → (k : ℕ) → AreFilled (to k) →
      next_ring fiber moves (to k) ≡ [] → rings_within fiber moves start ≡ to k
  unfolding rings_within rings_to with_next
  rings_within-is a s k f e =
      let low = filled-few a s k f in
      let more = rings_to-more fiber moves start (suc k) (length fiber - suc k) in
      let long : suc k + (length fiber - suc k) ≡ length fiber = omega arith in
      let all : to (length fiber) ≡ to k ++ [] ∷ more.0 =
      sym (ap to long) ∙ more.1
      ∙ ap (λ next. (to k ++ next ∷ []) ++ more.0) e
      ∙ append_assoc (to k) ([] ∷ []) more.0 in
      ap (take_while is_filled) all ∙ take_while-filled (to k) more.0 f

  -- the rings do end
  pub rings_end : Ascends fiber → In start fiber →
      (k : ℕ) × AreFilled (to k) × (next_ring fiber moves (to k) ≡ [])
      × (rings_within fiber moves start ≡ to k)
  rings_end a s =
      elim (filled-or_ends (length fiber)) [
        | inl f ↦ let low = filled-few a s (length fiber) f in absurd (omega arith)
        | inr r ↦ (r.0, r.2, r.3, rings_within-is a s r.0 r.2 r.3)
      ]

  -- rings 0 to k with no empty one begin the rings, so these have all their tables and more
  pub rings_within-long : Ascends fiber → In start fiber → (k : ℕ) → AreFilled (to k) →
      length (tables_of (to k)) ≤ length (tables_of (rings_within fiber moves start))
  unfolding rings_to with_next
  rings_within-long a s k f =
      let end = rings_end a s in
      let same = ap (λ rings. length (tables_of rings)) end.3 in
      by end.0 end.2 same (cases k end.0)
    where
      cases : (i j : ℕ) → (i ≤ j) ⊎ (j < i)
      cases i j = grind arith

      by : (j : ℕ) → next_ring fiber moves (to j) ≡ [] →
          length (tables_of (rings_within fiber moves start)) ≡ length (tables_of (to j)) →
          (k ≤ j) ⊎ (j < k) →
          length (tables_of (to k)) ≤ length (tables_of (rings_within fiber moves start))
      by j e same (inl l) =
          let more = rings_to-more fiber moves start k (j - k) in
          let long : k + (j - k) ≡ j = omega arith in
          let all = ap (λ n. length (tables_of (to n))) long in
          let parts =
          ap (λ rings. length (tables_of rings)) more.1
          ∙ ap length (flat_map-append (λ (r : Ring). r) (to k) more.0)
          ∙ length-append (tables_of (to k)) (tables_of more.0) in
          omega arith
      by j e same (inr l) =
          let more = rings_to-more fiber moves start (suc j) (k - suc j) in
          let long : suc j + (k - suc j) ≡ k = omega arith in
          let all : to k ≡ (to j ++ [] ∷ []) ++ more.0 =
          sym (ap to long) ∙ more.1 ∙ ap (λ next. (to j ++ next ∷ []) ++ more.0) e in
          absurd (not-filled (to j) more.0 (subst AreFilled all f))

  -- the tables reached
  abbrev reached_here : List (List ℕ)
  reached_here = tables_of (rings_within fiber moves start)

  -- they are joined to the start
  pub reached-joined : Ascends fiber → In start fiber → (v : List ℕ) → In v reached_here →
      Joined moves start v
  reached-joined a s v i =
      let end = rings_end a s in
      rings_to-joined fiber moves start end.0 v
      (subst (λ rings. In v (tables_of rings)) end.3 i)

  -- they are of the fiber
  pub reached-fiber : Ascends fiber → In start fiber → (v : List ℕ) → In v reached_here →
      In v fiber
  reached-fiber a s v i =
      let end = rings_end a s in
      rings_to-fiber fiber moves start s end.0 v
      (subst (λ rings. In v (tables_of rings)) end.3 i)

  -- none of them stands twice
  pub reached-distinct : Ascends fiber → In start fiber → AreDistinct reached_here
  reached-distinct a s =
      let end = rings_end a s in
      subst (λ rings. AreDistinct (tables_of rings)) (sym end.3)
      (rings_to-distinct fiber moves start a end.0)

  -- the start is one of them
  In-start : (k : ℕ) → In start (tables_of (to k))
  unfolding rings_to In
  In-start zero = inl refl
  In-start (suc k) = In-with_next fiber moves (to k) start (In-start k)

  -- a step from one of them leads to another
  reached-step : Ascends fiber → In start fiber → (u v : List ℕ) → In u reached_here →
      OneApart moves u v → In v fiber → In v reached_here
  unfolding rings_to
  reached-step a s u v i apart j =
      let end = rings_end a s in
      let k =
      rings_to-step fiber moves start end.0 u v
      (subst (λ rings. In u (tables_of rings)) end.3 i) apart j in
      let none : tables_of (with_next fiber moves (to end.0)) ≡ tables_of (to end.0) =
      tables_of-with_next fiber moves (to end.0)
      ∙ ap (λ next. tables_of (to end.0) ++ next) end.2
      ∙ append-nil (tables_of (to end.0)) in
      subst (λ rings. In v (tables_of rings)) (sym end.3) (subst (λ list. In v list) none k)

  -- where steps stay in the fiber, chains from one of them do
  reached-chain : Ascends fiber → In start fiber →
      ((u v : List ℕ) → In u fiber → OneApart moves u v → In v fiber) → (u : List ℕ)
      (tables : List (List ℕ)) (v : List ℕ) → In u fiber → In u reached_here →
      Chain moves u tables v → In v reached_here
  unfolding Chain
  reached-chain a s closed u [] v h i e = subst (λ w. In w reached_here) e i
  reached-chain a s closed u (next ∷ tables) v h i c =
      let j = closed u next h c.0 in
      reached-chain a s closed next tables v j (reached-step a s u next i c.0 j) c.1

  -- where steps stay in the fiber, each table joined to the start is reached
  pub joined-reached : Ascends fiber → In start fiber →
      ((u v : List ℕ) → In u fiber → OneApart moves u v → In v fiber) → (v : List ℕ) →
      Joined moves start v → In v reached_here
  joined-reached a s closed v h =
      let end = rings_end a s in
      let i =
      subst (λ rings. In start (tables_of rings)) (sym end.3) (In-start end.0) in
      reached-chain a s closed start h.0 v s i h.1
