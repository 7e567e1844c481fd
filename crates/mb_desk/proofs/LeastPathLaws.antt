-- The search among all lists of steps finds the least path.
use Rattle.std.proofs.Common.{List, None, Option, Some, [], ap, arith, cond, inl, inr, length, map, negsuc, pos, refl, subst, suc, sym, true, zero, ℕ, ℤ, ◌++◌, ◌<◌, ◌∙◌, ◌∷◌, ◌≡◌, ◌≤◌, ◌⊎◌}
use Rattle.std.specs.List.{filter, flat_map}
use Rattle.std.specs.Ordering.{is_lt}
use Rattle.std.specs.declared.cmp.Ordering.{Ordering}
use Rattle.std.specs.declared.cmp.Ordering.TheVariants.{Equal, Greater, Less}
use Rattle.mb_certificate.proofs.Reasons.{lists-same, same-lists}
use Rattle.mb_certificate.proofs.Walking.{Walks-walk, walk-Walks}
use Rattle.mb_certificate.specs.FirstFault.{walk}
use Rattle.mb_certificate.specs.Valid.{MovesBy, Walks}
use Rattle.mb_desk.specs.LeastPaths.{ends_at, leads, least_path, lists_of, lists_to, soonest, sooner, steps_of}
use Rattle.mb_matrix.proofs.CellLists.{In-filter_yes}
use Rattle.mb_rings.proofs.PathOrder.{before-never_itself, before-one_way, before-shorter, before-upto, upto-from_not}
use Rattle.mb_rings.specs.ShortestPath.{IsLeastPath, path_cmp}
use Rattle.mb_rings.specs.loops.Before.{IsBefore}
use Rattle.mb_tables.proofs.ListLaws.{In-cases, In-filter, In-filter_only, In-left, In-map, In-map_range, In-right, place-within}
use Rattle.mb_tables.specs.Lists.{In}

-- ---- the soonest of some paths

-- it is one of them, and none of them comes before it
record IsSoonest (paths : List (List ℤ)) (path : List ℤ) : Type 0 where
  there : In path paths
  first : (q : List ℤ) → In q paths → IsBefore q path → ⊥

-- where there is none, there are no paths
soonest-none : (paths : List (List ℤ)) → soonest paths ≡ None → (q : List ℤ) → In q paths → ⊥
unfolding soonest In
soonest-none [] e q i = i
soonest-none (path ∷ paths) e q i = by (soonest paths) e
  where
    last : (o : Ordering) (other : List ℤ) → cond (is_lt o) (Some other) (Some path) ≡ None → ⊥
    last Less other e = cc
    last Equal other e = cc
    last Greater other e = cc

    by : (o : Option (List ℤ)) → sooner path o ≡ None → ⊥
    by None e = cc
    by (Some other) e = last (path_cmp other path) other e

-- what is found is the soonest
soonest-some : (paths : List (List ℤ)) (p : List ℤ) → soonest paths ≡ Some p → IsSoonest paths p
unfolding soonest In
soonest-some [] p e = absurd (cc)
soonest-some (path ∷ paths) p e =
    by (soonest paths) (λ none. soonest-none paths none) (λ r f. soonest-some paths r f) refl e
  where
    stays : (r : List ℤ) → IsSoonest paths r → (IsBefore r path → ⊥) → IsSoonest (path ∷ paths) path
    stays r h not = record {
      there = inl refl;
      first = λ q i. elim i [
        | inl is ↦ λ b. before-never_itself path (subst (λ x. IsBefore x path) is b)
        | inr j ↦ λ b. h.first q j (before-upto q path r b (upto-from_not path r not))
      ];
    }

    here : (r : List ℤ) → IsSoonest paths r → (o : Ordering) → path_cmp r path ≡ o →
        cond (is_lt o) (Some r) (Some path) ≡ Some p → IsSoonest (path ∷ paths) p
    here r h Less f e =
        let same : r ≡ p = cc in
        subst (IsSoonest (path ∷ paths)) same (record {
          there = inr h.there;
          first = λ q i. elim i [
            | inl is ↦ λ b. before-one_way r path f (subst (λ x. IsBefore x r) is b)
            | inr j ↦ h.first q j
          ];
        })
    here r h Equal f e =
        let same : path ≡ p = cc in
        subst (IsSoonest (path ∷ paths)) same
        (stays r h (λ b. let g : Equal ≡ Less = sym f ∙ b in cc))
    here r h Greater f e =
        let same : path ≡ p = cc in
        subst (IsSoonest (path ∷ paths)) same
        (stays r h (λ b. let g : Greater ≡ Less = sym f ∙ b in cc))

    by : (o : Option (List ℤ)) → (soonest paths ≡ None → (q : List ℤ) → In q paths → ⊥) →
        ((r : List ℤ) → soonest paths ≡ Some r → IsSoonest paths r) → soonest paths ≡ o →
        sooner path o ≡ Some p → IsSoonest (path ∷ paths) p
    by None none some f e =
        let same : path ≡ p = cc in
        subst (IsSoonest (path ∷ paths)) same (record {
          there = inl refl;
          first = λ q i. elim i [
            | inl is ↦ λ b. before-never_itself path (subst (λ x. IsBefore x path) is b)
            | inr j ↦ absurd (none f q j)
          ];
        })
    by (Some r) none some f e = here r (some r f) (path_cmp r path) refl e

-- ---- all lists of steps

-- what stands in the list of one element stands in the lists of all
In-flat_map : {X Y : Type 0} (f : X → List Y) (x : X) (y : Y) (xs : List X) → In x xs →
    In y (f x) → In y (flat_map f xs)
unfolding In
In-flat_map f x y [] i j = absurd i
In-flat_map f x y (z ∷ xs) (inl e) j =
    In-left y (f z) (flat_map f xs) (subst (λ w. In y (f w)) e j)
In-flat_map f x y (z ∷ xs) (inr i) j =
    In-right y (f z) (flat_map f xs) (In-flat_map f x y xs i j)

-- a list of these steps is one of all of its length
in-lists_of : (steps q : List ℤ) → ((s : ℤ) → In s q → In s steps) →
    In q (lists_of steps (length q))
unfolding lists_of In
in-lists_of steps [] h = inl refl
in-lists_of steps (s ∷ q) h =
    In-flat_map (λ step. map (λ list. step ∷ list) (lists_of steps (length q))) s (s ∷ q) steps
    (h s (inl refl))
    (In-map (λ list. s ∷ list) q (lists_of steps (length q))
    (in-lists_of steps q (λ t i. h t (inr i))))

-- and of all of its length or a smaller one
in-lists_to : (steps q : List ℤ) (n : ℕ) → length q ≤ n → In q (lists_of steps (length q)) →
    In q (lists_to steps n)
unfolding lists_to
in-lists_to steps q zero l i =
    let e : length q ≡ 0 = omega arith in subst (λ k. In q (lists_of steps k)) e i
in-lists_to steps q (suc n) l i =
    by (cases (length q) n l) (λ h. in-lists_to steps q n h i)
  where
    cases : (a b : ℕ) → a ≤ suc b → (a ≤ b) ⊎ (a ≡ suc b)
    cases a b h = grind arith

    by : (length q ≤ n) ⊎ (length q ≡ suc n) → (length q ≤ n → In q (lists_to steps n)) →
        In q (lists_to steps n ++ lists_of steps (suc n))
    by (inl h) rest = In-left q (lists_to steps n) (lists_of steps (suc n)) (rest h)
    by (inr e) rest =
        In-right q (lists_to steps n) (lists_of steps (suc n))
        (subst (λ k. In q (lists_of steps k)) e i)

-- a move added is one of the steps
added-in : (n k : ℕ) → k < n → In (pos (suc k)) (steps_of n)
unfolding steps_of In
added-in zero k l = absurd (omega arith)
added-in (suc n) k l = by (cases k n l) (λ h. added-in n k h)
  where
    cases : (a b : ℕ) → a < suc b → (a ≡ b) ⊎ (a < b)
    cases a b h = grind arith

    by : (k ≡ n) ⊎ (k < n) → (k < n → In (pos (suc k)) (steps_of n)) →
        In (pos (suc k)) (pos (suc n) ∷ negsuc n ∷ steps_of n)
    by (inl e) rest = inl (ap (λ m. pos (suc m)) e)
    by (inr h) rest = inr (inr (rest h))

-- so is a move subtracted
taken-in : (n k : ℕ) → k < n → In (negsuc k) (steps_of n)
unfolding steps_of In
taken-in zero k l = absurd (omega arith)
taken-in (suc n) k l = by (cases k n l) (λ h. taken-in n k h)
  where
    cases : (a b : ℕ) → a < suc b → (a ≡ b) ⊎ (a < b)
    cases a b h = grind arith

    by : (k ≡ n) ⊎ (k < n) → (k < n → In (negsuc k) (steps_of n)) →
        In (negsuc k) (pos (suc n) ∷ negsuc n ∷ steps_of n)
    by (inl e) rest = inr (inl (ap negsuc e))
    by (inr h) rest = inr (inr (rest h))

-- what leads anywhere is a step of the moves
step-in : (moves : List (List ℤ)) (step : ℤ) (u v : List ℕ) → MovesBy moves step u v →
    In step (steps_of (length moves))
step-in moves (pos zero) u v h = absurd h
step-in moves (pos (suc k)) u v h = added-in (length moves) k (place-within moves k h.0 h.1)
step-in moves (negsuc k) u v h = taken-in (length moves) k (place-within moves k h.0 h.1)

-- so is each step of a walk
walk-steps_in : (moves : List (List ℤ)) (q : List ℤ) (u v : List ℕ) → Walks moves q u v →
    (s : ℤ) → In s q → In s (steps_of (length moves))
unfolding Walks In
walk-steps_in moves [] u v h s i = absurd i
walk-steps_in moves (step ∷ q) u v h s (inl e) =
    subst (λ t. In t (steps_of (length moves))) (sym e) (step-in moves step u h.0 h.1)
walk-steps_in moves (step ∷ q) u v h s (inr i) = walk-steps_in moves q h.0 v h.2 s i

-- ---- leading from table to table

-- what passes the test leads there
leads-walks : (moves : List (List ℤ)) (u v : List ℕ) (q : List ℤ) → leads moves u v q ≡ true →
    Walks moves q u v
leads-walks moves u v q e = walk-Walks moves q u v (by (walk moves q u) e)
  where
    by : (o : Option (List ℕ)) → ends_at v o ≡ true → o ≡ Some v
    by None e = cc
    by (Some end) e = ap Some (same-lists end v e)

-- and the other way round
walks-leads : (moves : List (List ℤ)) (u v : List ℕ) (q : List ℤ) → Walks moves q u v →
    leads moves u v q ≡ true
walks-leads moves u v q h =
    ap (ends_at v) (Walks-walk moves q u v h).1 ∙ lists-same v v refl

-- ---- the least path

module _ (moves : List (List ℤ)) (most : ℕ) (u v : List ℕ) where
  -- the lists that are searched
  abbrev all : List (List ℤ)
  all = lists_to (steps_of (length moves)) most

  -- a walk that is not too long is found
  sought : (q : List ℤ) → Walks moves q u v → length q ≤ most →
      In q (filter (leads moves u v) all)
  sought q h l =
      In-filter (leads moves u v) q all
      (in-lists_to (steps_of (length moves)) q most l
      (in-lists_of (steps_of (length moves)) q (walk-steps_in moves q u v h)))
      (walks-leads moves u v q h)

  -- where no path is found, none of this length leads there
  no_path : least_path moves most u v ≡ None → (q : List ℤ) → Walks moves q u v →
      length q ≤ most → ⊥
  unfolding least_path
  no_path e q h l = soonest-none (filter (leads moves u v) all) e q (sought q h l)

  -- what is found leads there
  pub path-walks : (p : List ℤ) → least_path moves most u v ≡ Some p → Walks moves p u v
  unfolding least_path
  path-walks p e =
      leads-walks moves u v p
      (In-filter_yes (leads moves u v) p all
      (soonest-some (filter (leads moves u v) all) p e).there)

  -- the least path is found, where it isn't too long
  pub least-found : (p : List ℤ) → IsLeastPath moves u p v → length p ≤ most →
      least_path moves most u v ≡ Some p
  unfolding least_path
  least-found p h l = by (least_path moves most u v) refl
    where
      by : (o : Option (List ℤ)) → least_path moves most u v ≡ o →
          least_path moves most u v ≡ Some p
      by None e = absurd (no_path e p h.leads l)
      by (Some r) e =
          let s = soonest-some (filter (leads moves u v) all) r e in
          let same = upto-from_not r p (s.first p (sought p h.leads l)) in
          elim same [
            | inl f ↦ e ∙ ap Some f
            | inr b ↦ absurd (h.least r (path-walks r e) b)
          ]

-- ---- what is found is the least path

-- what stands in the lists of some elements stands in that of one
In-flat_map_only : {X Y : Type 0} (f : X → List Y) (y : Y) (xs : List X) → In y (flat_map f xs) →
    (x : X) × In y (f x)
unfolding In
In-flat_map_only f y [] i = absurd i
In-flat_map_only f y (x ∷ xs) i =
    elim (In-cases y (f x) (flat_map f xs) i) [
      | inl j ↦ (x, j)
      | inr j ↦ In-flat_map_only f y xs j
    ]

-- the lists of a length have it
lists_of-long : (steps : List ℤ) (n : ℕ) (q : List ℤ) → In q (lists_of steps n) → length q ≡ n
unfolding lists_of In
lists_of-long steps zero q (inl e) = ap length e
lists_of-long steps zero q (inr i) = absurd i
lists_of-long steps (suc n) q i =
    let a =
    In-flat_map_only (λ step. map (λ list. step ∷ list) (lists_of steps n)) q steps i in
    let b = In-map_range (λ list. a.0 ∷ list) q (lists_of steps n) a.1 in
    ap length b.2 ∙ ap suc (lists_of-long steps n b.0 b.1)

-- those of a length or a smaller one are no longer
lists_to-short : (steps : List ℤ) (n : ℕ) (q : List ℤ) → In q (lists_to steps n) → length q ≤ n
unfolding lists_to
lists_to-short steps zero q i = let e = lists_of-long steps zero q i in omega arith
lists_to-short steps (suc n) q i =
    elim (In-cases q (lists_to steps n) (lists_of steps (suc n)) i) [
      | inl j ↦ let l = lists_to-short steps n q j in omega arith
      | inr j ↦ let e = lists_of-long steps (suc n) q j in omega arith
    ]

-- what is found is the least path
pub found-least : (moves : List (List ℤ)) (most : ℕ) (u v : List ℕ) (p : List ℤ) →
    least_path moves most u v ≡ Some p → IsLeastPath moves u p v
unfolding least_path
found-least moves most u v p e =
    let s = soonest-some (filter (leads moves u v) (all moves most u v)) p e in
    let short =
    lists_to-short (steps_of (length moves)) most p
    (In-filter_only (leads moves u v) p (all moves most u v) s.there) in
    record {
      leads = path-walks moves most u v p e;
      least = λ q h b. by (cases (length q) (length p))
          (λ l. s.first q (sought moves most u v q h (omega arith)) b)
          (λ l. before-one_way q p b (before-shorter p q l));
    }
  where
    cases : (m n : ℕ) → (m ≤ n) ⊎ (n < m)
    cases m n = grind arith

    by : {m n : ℕ} → (m ≤ n) ⊎ (n < m) → (m ≤ n → ⊥) → (n < m → ⊥) → ⊥
    by (inl l) one two = one l
    by (inr l) one two = two l
