-- The walk on its way: the rings so far, and the ring to be expanded.
use Rattle.std.proofs.Common.{Err, List, Ok, [], ap, arith, false, inl, inr, length, length-append, min, nat_eq, refl, subst, suc, sym, true, zero, ℕ, ℤ, ◌&&◌, ◌++◌, ◌+◌, ◌-◌, ◌<◌, ◌∙◌, ◌∷◌, ◌≡◌, ◌≤◌}
use Rattle.std.proofs.Math.Dec.{eqb-suc-zero}
use Rattle.std.proofs.lemmas.Bool.Decides.{nat_tests}
use Rattle.std.proofs.lemmas.List.Folds.{list_all-append}
use Rattle.std.proofs.lemmas.List.Sorted.{IsPermutation-append_left, IsPermutation-trans, length_permutation}
use Rattle.std.specs.List.Sorted.{IsPermutation}
use Rattle.std.specs.Prelude.{if◌then◌else◌, nat_lt}
use Rattle.mb_matrix.specs.Ascending.{Ascends}
use Rattle.mb_rings.proofs.AscendingTables.{ascends-same}
use Rattle.mb_rings.proofs.DistinctTables.{In-permutation, distinct-right, distinct-apart, length-le_distinct, permutation-In}
use Rattle.mb_rings.proofs.RingEnds.{AreFilled, length-le_filled, rings_within-is, rings_within-long}
use Rattle.mb_rings.proofs.RingSteps.{last_ring-push, next_ring-ascends, next_ring-has, next_ring-only, rings_to-fiber, tables_of-push, tables_of-with_next}
use Rattle.mb_rings.specs.declared.fault.WalkFault.{WalkFault}
use Rattle.mb_rings.specs.declared.fault.WalkFault.TheVariants.{OutOfMemory, TooLarge}
use Rattle.mb_rings.specs.Walk.{walk_cause, within_limit}
use Rattle.mb_rings.specs.loops.Found.{Exceeds, Finds, IsSearchFault}
use Rattle.mb_rings.specs.Ring.{Ring, is_filled, last_ring, next_ring, rings_to, rings_within, tables_of, with_next}
use Rattle.mb_tables.proofs.ListLaws.{In-cases, In-right}
use Rattle.mb_tables.specs.Counts.{AreCounts}
use Rattle.mb_tables.specs.Lists.{In}
use Rattle.mb_tables.specs.Step.{IsNear, OneApart}
use Rattle.mb_tables.specs.Answers.{IsRefused}

-- lists with one element more are equal where the elements and the rest are
push-same : (xs ys : List Ring) (x y : Ring) → xs ++ x ∷ [] ≡ ys ++ y ∷ [] → (xs ≡ ys) × (x ≡ y)
push-same [] [] x y e = (refl, cc)
push-same [] (b ∷ ys) x y e =
    let f = ap length e in let g = length-append ys (y ∷ []) in absurd (omega arith)
push-same (a ∷ xs) [] x y e =
    let f = ap length e in let g = length-append xs (x ∷ []) in absurd (omega arith)
push-same (a ∷ xs) (b ∷ ys) x y e =
    let first : a ≡ b = cc in
    let rest : xs ++ x ∷ [] ≡ ys ++ y ∷ [] = cc in
    let r = push-same xs ys x y rest in
    let same = r.0 in (cc, r.1)

-- the rings before the one to be expanded are filled, they and this one are rings 0 to the
-- level, and the visited tables are those of all of them
pub record IsWalked (fiber : Ring) (moves : List (List ℤ)) (start : List ℕ) (limit : ℕ)
    (rings : List Ring) (ring : Ring) (visited : List (List ℕ)) : Type 0 where
  pub level : ℕ
  pub so_far : rings ++ ring ∷ [] ≡ rings_to fiber moves start level
  pub filled : AreFilled rings
  pub met : IsPermutation (tables_of (rings ++ ring ∷ [])) visited
  pub room : length visited ≤ limit

-- what a walk needs to know of the fiber: it ascends and has the start, steps stay in it, and the
-- counts of its tables fit 32 bits
pub record IsWalkable (fiber : Ring) (moves : List (List ℤ)) (start : List ℕ) : Type 0 where
  pub ascends : Ascends fiber
  pub begins : In start fiber
  pub closed : (u v : List ℕ) → In u fiber → OneApart moves u v → In v fiber
  pub counts : (v : List ℕ) → In v fiber → AreCounts v

-- how far a walk is from its end: how many tables it may still meet, and one where the ring to be
-- expanded has a table
abbrev pub distance : ℕ → List (List ℕ) → Ring → ℕ
distance limit visited ring = (limit - length visited) + min 1 (length ring)

-- a filled ring more
filled-push : (rings : List Ring) (ring : Ring) → AreFilled rings → 0 < length ring →
    AreFilled (rings ++ ring ∷ [])
filled-push rings [] f l = absurd (omega arith)
filled-push rings (u ∷ ring) f l =
    list_all-append is_filled rings ((u ∷ ring) ∷ []) ∙ ap (λ t. t && true) f

-- rings with more tables than the limit are refused
over-limit : (limit seen : ℕ) (rings : List Ring) → seen ≡ limit + 1 →
    limit < length (tables_of rings) → within_limit limit rings ≡ Err (TooLarge seen)
over-limit limit seen rings e l =
    let f : nat_lt limit (length (tables_of rings)) ≡ true = grind (arith, nat_tests) in
    ap (λ t. if t then Err (TooLarge (limit + 1)) else Ok rings) f
    ∙ ap (λ n. Err (TooLarge n)) (sym e)

-- any others are the answer
pub under-limit : (limit : ℕ) (rings : List Ring) → length (tables_of rings) ≤ limit →
    within_limit limit rings ≡ Ok rings
under-limit limit rings l =
    let f : nat_lt limit (length (tables_of rings)) ≡ false = grind (arith, nat_tests) in
    ap (λ t. if t then Err (TooLarge (limit + 1)) else Ok rings) f

module _ (fiber : Ring) (moves : List (List ℤ)) (start : List ℕ) (limit : ℕ) where
  -- before the first step
  pub walked-start : (ring : Ring) (visited : List (List ℕ)) → ring ≡ start ∷ [] →
      IsPermutation (start ∷ []) visited → 1 ≤ limit →
      IsWalked fiber moves start limit [] ring visited
  unfolding rings_to
  walked-start ring visited e p some =
      let one = length_permutation (start ∷ []) visited p in
      record {
        level = 0;
        so_far = ap (λ r. r ∷ []) e;
        filled = refl;
        met = subst (λ r. IsPermutation (r ++ []) visited) (sym e) p;
        room = omega arith;
      }

  module _ (rings : List Ring) (ring : Ring) (visited : List (List ℕ))
      (w : IsWalked fiber moves start limit rings ring visited) where
    -- a table of the ring is one of the rings'
    ring-In : (u : List ℕ) → In u ring → In u (tables_of (rings_to fiber moves start w.level))
    ring-In u i =
        subst (λ list. In u (tables_of list)) w.so_far
        (subst (λ list. In u list) (sym (tables_of-push rings ring))
        (In-right u (tables_of rings) ring i))

    -- and so one of the fiber's
    pub ring-fiber : IsWalkable fiber moves start → (u : List ℕ) → In u ring → In u fiber
    ring-fiber h u i = rings_to-fiber fiber moves start h.begins w.level u (ring-In u i)

    -- how many tables are visited
    visited-length : length visited ≡ length (tables_of rings) + length ring
    visited-length =
        length_permutation (tables_of (rings ++ ring ∷ [])) visited w.met
        ∙ ap length (tables_of-push rings ring) ∙ length-append (tables_of rings) ring

    -- those of the ring are among them
    pub ring-known : length ring ≤ length visited
    ring-known = let e = visited-length in omega arith

    -- the ring is the last of the rings so far
    last-is : last_ring (rings_to fiber moves start w.level) ≡ ring
    last-is = ap last_ring (sym w.so_far) ∙ last_ring-push rings ring

    -- a visited table is one of the rings'
    visited-In : (v : List ℕ) → In v visited → In v (tables_of (rings_to fiber moves start w.level))
    visited-In v i =
        subst (λ list. In v (tables_of list)) w.so_far
        (permutation-In (tables_of (rings ++ ring ∷ [])) visited v w.met i)

    -- and the other way round
    In-visited : (v : List ℕ) → In v (tables_of (rings_to fiber moves start w.level)) → In v visited
    In-visited v i =
        In-permutation (tables_of (rings ++ ring ∷ [])) visited v w.met
        (subst (λ list. In v (tables_of list)) (sym w.so_far) i)

    -- a new table one step from the ring is in the next ring
    is_next : IsWalkable fiber moves start → (v : List ℕ) → IsNear moves ring v →
        (In v visited → ⊥) → In v (next_ring fiber moves (rings_to fiber moves start w.level))
    is_next h v near new =
        next_ring-has fiber moves (rings_to fiber moves start w.level) v
        (h.closed near.0 v (ring-fiber h near.0 near.1) near.2)
        (subst (λ r. IsNear moves r v) (sym last-is) near) (λ i. new (In-visited v i))

    -- what the search finds is the next ring
    next-is : IsWalkable fiber moves start → (after : List (List ℕ)) (next : Ring) →
        Finds (IsNear moves ring) visited after next → Ascends next →
        next ≡ next_ring fiber moves (rings_to fiber moves start w.level)
    next-is h after next f up =
        let now = rings_to fiber moves start w.level in
        ascends-same next (next_ring fiber moves now) up
        (next_ring-ascends fiber moves now h.ascends)
        (λ v i. is_next h v (f.sought v i) (f.new v i))
        (λ v i.
        let only = next_ring-only fiber moves now v i in
        let there =
        f.all v (subst (λ r. IsNear moves r v) last-is only.1) (h.counts v only.0) in
        elim (In-cases v visited next (permutation-In (visited ++ next) after v f.visited there)) [
          | inl j ↦ absurd (only.2 (visited-In v j))
          | inr j ↦ j
        ])

    -- after the ring is expanded
    pub walked-step : IsWalkable fiber moves start → (after : List (List ℕ)) (next : Ring) →
        Finds (IsNear moves ring) visited after next → Ascends next → 0 < length ring →
        length after ≤ limit →
        IsWalked fiber moves start limit (rings ++ ring ∷ []) next after
    unfolding rings_to with_next
    walked-step h after next f up some room =
        let now = rings_to fiber moves start w.level in
        let p : IsPermutation (tables_of (rings ++ ring ∷ []) ++ next) after =
        IsPermutation-trans (tables_of (rings ++ ring ∷ []) ++ next) (visited ++ next) after
        (IsPermutation-append_left next (tables_of (rings ++ ring ∷ [])) visited w.met) f.visited in
        record {
          level = suc w.level;
          so_far =
              ap (λ list. list ++ next ∷ []) w.so_far
              ∙ ap (λ r. now ++ r ∷ []) (next-is h after next f up);
          filled = filled-push rings ring w.filled some;
          met =
              subst (λ list. IsPermutation list after)
              (sym (tables_of-push (rings ++ ring ∷ []) next)) p;
          room = room;
        }

    -- it is nearer to its end
    pub distance-falls : (after : List (List ℕ)) (next : Ring) →
        Finds (IsNear moves ring) visited after next → 0 < length ring → length after ≤ limit →
        distance limit after next < distance limit visited ring
    distance-falls after next f some room =
        let e = length_permutation (visited ++ next) after f.visited in
        let g = length-append visited next in
        omega arith

    -- where new tables pass the limit, more than the limit are reached
    tables-over : IsWalkable fiber moves start → 0 < length ring → (found : List (List ℕ)) →
        Exceeds (IsNear moves ring) limit visited found →
        limit < length (tables_of (rings_within fiber moves start))
    unfolding rings_to with_next
    tables-over h some found x =
        let now = rings_to fiber moves start w.level in
        let next = next_ring fiber moves now in
        let many = x.many in
        let long = length-append visited found in
        let few =
        length-le_distinct found next (distinct-right visited found x.distinct)
        (λ v i. is_next h v (x.sought v i)
        (λ j. distinct-apart visited found x.distinct v j i)) in
        let room = w.room in
        let filled : AreFilled (now ++ next ∷ []) =
        filled-push now next (subst AreFilled w.so_far (filled-push rings ring w.filled some))
        (omega arith) in
        let begins = rings_within-long fiber moves start h.ascends h.begins (suc w.level) filled in
        let all =
        ap length (tables_of-with_next fiber moves now) ∙ length-append (tables_of now) next in
        let met =
        length_permutation (tables_of (rings ++ ring ∷ [])) visited w.met
        ∙ ap (λ list. length (tables_of list)) w.so_far in
        omega arith

    -- and so each refusal of the search is the one of the walk
    pub walked-over : IsWalkable fiber moves start → 0 < length ring → (fault : WalkFault) →
        IsSearchFault (IsNear moves ring) limit visited fault →
        IsRefused (walk_cause fault) (within_limit limit (rings_within fiber moves start))
    walked-over h some OutOfMemory x = tt
    walked-over h some (TooLarge seen) x =
        over-limit limit seen (rings_within fiber moves start) x.0 (tables-over h some x.1 x.2)

    -- at the end the rings are the rings of the start
    pub walked-end : IsWalkable fiber moves start → ring ≡ [] →
        rings_within fiber moves start ≡ rings
    unfolding rings_to with_next
    walked-end h e = by w.level w.so_far
      where
        by : (level : ℕ) → rings ++ ring ∷ [] ≡ rings_to fiber moves start level →
            rings_within fiber moves start ≡ rings
        by zero f = let r = push-same rings [] ring (start ∷ []) f in let g = sym e ∙ r.1 in cc
        by (suc k) f =
            let now = rings_to fiber moves start k in
            let r = push-same rings now ring (next_ring fiber moves now) f in
            rings_within-is fiber moves start h.ascends h.begins k
            (subst AreFilled r.0 w.filled) (sym r.1 ∙ e)
            ∙ sym r.0

    -- how many tables are reached
    pub walked-total : ring ≡ [] → length visited ≡ length (tables_of rings)
    walked-total e = let f = visited-length in let g = ap length e in omega arith

    -- there are no more rings than visited tables
    pub walked-few : length rings ≤ length visited
    walked-few =
        let f = visited-length in let g = length-le_filled rings w.filled in omega arith

-- a list that is not empty
pub some-length : {X : Type 0} (list : List X) (n : ℕ) → n ≡ length list →
    false ≡ nat_eq n 0 → 0 < length list
some-length [] n e f = let g : false ≡ true = f ∙ ap (λ k. nat_eq k 0) e in cc
some-length (x ∷ list) n e f = omega arith

-- a list that is
pub no-length : {X : Type 0} (list : List X) (n : ℕ) → n ≡ length list → true ≡ nat_eq n 0 →
    list ≡ []
no-length [] n e f = refl
no-length (x ∷ list) n e f =
    let g : true ≡ false = f ∙ ap (λ k. nat_eq k 0) e ∙ eqb-suc-zero (length list) in cc
