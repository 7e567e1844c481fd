-- Laws of lists of any elements: what stands in a list, and what stands at a place of one.
-- What nothing here cites is for the crates of monomials and rewriting, which stand above.
use Rattle.std.proofs.Common.{Bool, List, None, Some, [], ap, arith, cond, false, get_or, inl, inr, length, map, refl, slice_get, subst, suc, sym, true, zero, ℕ, ◌++◌, ◌+◌, ◌<◌, ◌∙◌, ◌∷◌, ◌≡◌, ◌≤◌, ◌⊎◌}
use Rattle.std.specs.List.{filter, range_with_len}
use Rattle.mb_tables.specs.Lists.{In}

-- what stands in a list and passes a test stands in what the test keeps
pub In-filter : {X : Type 0} (p : X → Bool) (x : X) (xs : List X) →
    In x xs → p x ≡ true → In x (filter p xs)
unfolding In
In-filter p x [] i e = absurd i
In-filter p x (y ∷ xs) (inl f) e =
    subst (λ t. In x (cond t (y ∷ filter p xs) (filter p xs))) (sym e ∙ ap p f) (inl f)
In-filter p x (y ∷ xs) (inr i) e = by (p y) (In-filter p x xs i e)
  where
    by : (t : Bool) → In x (filter p xs) → In x (cond t (y ∷ filter p xs) (filter p xs))
    by true h = inr h
    by false h = h

-- the value of what stands in a list stands among the values
pub In-map : {X Y : Type 0} (f : X → Y) (x : X) (xs : List X) →
    In x xs → In (f x) (map f xs)
unfolding In
In-map f x [] i = absurd i
In-map f x (y ∷ xs) (inl e) = inl (ap f e)
In-map f x (y ∷ xs) (inr i) = inr (In-map f x xs i)

-- a number of a range stands in it
pub In-range : (a n k : ℕ) → a ≤ k → k < a + n → In k (range_with_len a n)
unfolding In
In-range a zero k h l = absurd (omega arith)
In-range a (suc n) k h l =
    let cases : (k ≡ a) ⊎ (a < k) = grind arith in
    elim cases [
      | inl e ↦ inl e
      | inr g ↦ inr (In-range (a + 1) n k (omega arith) (omega arith))
    ]

-- a place that has an element is within the list
pub place-within : {X : Type 0} (xs : List X) (k : ℕ) (x : X) →
    slice_get xs k ≡ Some x → k < length xs
place-within [] k x e = cc
place-within (y ∷ xs) zero x e = omega arith
place-within (y ∷ xs) (suc k) x e = let h = place-within xs k x e in omega arith

-- each place within a list has an element
pub some_at : {X : Type 0} (xs : List X) (k : ℕ) →
    k < length xs → (x : X) × (slice_get xs k ≡ Some x)
some_at [] k h = absurd (omega arith)
some_at (x ∷ xs) zero h = (x, refl)
some_at (x ∷ xs) (suc k) h = some_at xs k (omega arith)

-- what stands in the front of two lists stands in both together
pub In-left : {X : Type 0} (u : X) (xs ys : List X) → In u xs → In u (xs ++ ys)
unfolding In
In-left u [] ys h = absurd h
In-left u (x ∷ xs) ys (inl e) = inl e
In-left u (x ∷ xs) ys (inr h) = inr (In-left u xs ys h)

-- what stands in the back of two lists stands in both together
pub In-right : {X : Type 0} (u : X) (xs ys : List X) → In u ys → In u (xs ++ ys)
unfolding In
In-right u [] ys h = h
In-right u (x ∷ xs) ys h = inr (In-right u xs ys h)

-- what stands in two lists together stands in the front or in the back
pub In-cases : {X : Type 0} (u : X) (xs ys : List X) → In u (xs ++ ys) → In u xs ⊎ In u ys
unfolding In
In-cases u [] ys h = inr h
In-cases u (x ∷ xs) ys (inl e) = inl (inl e)
In-cases u (x ∷ xs) ys (inr h) =
    elim (In-cases u xs ys h) [ inl a ↦ inl (inr a) | inr b ↦ inr b ]

-- what stands in a list that is there only by a test shows that the test passed
pub cond-in : (t : Bool) (u : List ℕ) (xs : List (List ℕ)) →
    In u (cond t xs []) → (t ≡ true) × In u xs
unfolding In
cond-in true u xs h = (refl, h)
cond-in false u xs h = absurd h

-- a place that has an element comes before each place that has none
pub none-past : {X : Type 0} (xs : List X) (k j : ℕ) (x : X) →
    slice_get xs k ≡ None → slice_get xs j ≡ Some x → j < k
none-past [] k j x e f = cc
none-past (y ∷ xs) zero j x e f = cc
none-past (y ∷ xs) (suc k) zero x e f = omega arith
none-past (y ∷ xs) (suc k) (suc j) x e f = let h = none-past xs k j x e f in omega arith

-- what a test keeps stands in the list
pub In-filter_only : {X : Type 0} (p : X → Bool) (x : X) (xs : List X) →
    In x (filter p xs) → In x xs
unfolding In
In-filter_only p x [] h = absurd h
In-filter_only p x (y ∷ xs) h = by (p y) (In-filter_only p x xs) h
  where
    by : (t : Bool) → (In x (filter p xs) → In x xs) →
        In x (cond t (y ∷ filter p xs) (filter p xs)) → (x ≡ y) ⊎ In x xs
    by true ih (inl e) = inl e
    by true ih (inr i) = inr (ih i)
    by false ih i = inr (ih i)

-- the element at a place stands in the list
pub place-in : {X : Type 0} (xs : List X) (k : ℕ) (p : X) →
    slice_get xs k ≡ Some p → In p xs
unfolding In
place-in [] k p e = cc
place-in (x ∷ xs) zero p e = inl (cc)
place-in (x ∷ xs) (suc k) p e = inr (place-in xs k p e)

-- and what stands in the list is the element at some place
pub In-place : {X : Type 0} (xs : List X) (p : X) → In p xs →
    (k : ℕ) × (slice_get xs k ≡ Some p)
unfolding In
In-place [] p h = absurd h
In-place (x ∷ xs) p (inl e) = (0, ap Some (sym e))
In-place (x ∷ xs) p (inr h) = let r = In-place xs p h in (suc r.0, r.1)

-- an element stays at its place when a list goes on
pub get-more : {X : Type 0} (xs more : List X) (k : ℕ) (x : X) →
    slice_get xs k ≡ Some x → slice_get (xs ++ more) k ≡ Some x
get-more [] more k x e = cc
get-more (y ∷ xs) more zero x e = e
get-more (y ∷ xs) more (suc k) x e = get-more xs more k x e

-- the places within a list are the same when it goes on
pub get-front : {X : Type 0} (xs more : List X) (k : ℕ) → k < length xs →
    slice_get (xs ++ more) k ≡ slice_get xs k
get-front [] more k h = absurd (omega arith)
get-front (y ∷ xs) more zero h = refl
get-front (y ∷ xs) more (suc k) h = get-front xs more k (omega arith)

-- the last element stands at the place that the length before it names
pub get-last : {X : Type 0} (xs : List X) (x : X) →
    slice_get (xs ++ (x ∷ [])) (length xs) ≡ Some x
get-last [] x = refl
get-last (y ∷ xs) x = get-last xs x

-- tests that agree on a list keep the same
pub filter-same : {X : Type 0} (p q : X → Bool) (xs : List X) →
    ((x : X) → In x xs → p x ≡ q x) → filter p xs ≡ filter q xs
unfolding In
filter-same p q [] h = refl
filter-same p q (x ∷ xs) h =
    let e = h x (inl refl) in
    let f = filter-same p q xs (λ y i. h y (inr i)) in
    ap (λ t. cond t (x ∷ filter p xs) (filter p xs)) e ∙ ap (λ l. cond (q x) (x ∷ l) l) f

-- what a test keeps of two lists together, list by list
pub filter-append : {X : Type 0} (p : X → Bool) (xs ys : List X) →
    filter p (xs ++ ys) ≡ filter p xs ++ filter p ys
filter-append p [] ys = refl
filter-append {X} p (x ∷ xs) ys =
    ap (λ l. cond (p x) (x ∷ l) l) (filter-append p xs ys) ∙ by (p x)
  where
    by : (t : Bool) →
        cond t (x ∷ (filter p xs ++ filter p ys)) (filter p xs ++ filter p ys)
        ≡ cond t (x ∷ filter p xs) (filter p xs) ++ filter p ys
    by true = refl
    by false = refl

-- what stands in a range is a number of it
pub range-only : (a n k : ℕ) → In k (range_with_len a n) → (a ≤ k) × (k < a + n)
unfolding In
range-only a zero k h = absurd h
range-only a (suc n) k (inl e) = (omega arith, omega arith)
range-only a (suc n) k (inr h) =
    let r = range-only (a + 1) n k h in (omega arith, omega arith)

-- what stands among the values is the value of what stands in the list
pub In-map_range : {X Y : Type 0} (f : X → Y) (y : Y) (xs : List X) → In y (map f xs) →
    (x : X) × In x xs × (y ≡ f x)
unfolding In
In-map_range f y [] h = absurd h
In-map_range f y (x ∷ xs) (inl e) = (x, inl refl, e)
In-map_range f y (x ∷ xs) (inr h) =
    let r = In-map_range f y xs h in (r.0, inr r.1, r.2)

-- lists are equal where they are as long and equal at each place
pub same_at : {X : Type 0} (d : X) (xs ys : List X) → length xs ≡ length ys →
    ((k : ℕ) → k < length xs → get_or xs k d ≡ get_or ys k d) → xs ≡ ys
same_at d [] [] e h = refl
same_at d [] (y ∷ ys) e h = absurd (omega arith)
same_at d (x ∷ xs) [] e h = absurd (omega arith)
same_at d (x ∷ xs) (y ∷ ys) e h =
    let first = h 0 (omega arith) in
    let rest = same_at d xs ys (omega arith) (λ k l. h (suc k) (omega arith)) in
    cc

-- what stands between a front and a back
pub get-middle : {X : Type 0} (xs : List X) (x : X) (ys : List X) →
    slice_get (xs ++ (x ∷ ys)) (length xs) ≡ Some x
get-middle [] x ys = refl
get-middle (z ∷ xs) x ys = get-middle xs x ys
