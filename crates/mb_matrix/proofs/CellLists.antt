-- Lists of cells: what a test keeps of them, what stands in them and at which place, and ranges.
use Rattle.std.proofs.Common.{All, Bool, List, [], ap, arith, cond, false, get_or, inl, inr, length, nat_eq, not, refl, suc, sym, true, zero, ℕ, ◌++◌, ◌+◌, ◌<◌, ◌∙◌, ◌∷◌, ◌≡◌, ◌≢◌, ◌≤◌, ◌⊎◌}
use Rattle.std.proofs.lemmas.Bool.{cases_eq, ne_eqb}
use Rattle.std.proofs.lemmas.List.Elements.{All-from_get_or}
use Rattle.std.proofs.lemmas.List.FromFn.{get_or-range_with_len, length-range_with_len}
use Rattle.std.specs.List.{filter, range_with_len}
use Rattle.mb_matrix.specs.Peel.{Rises, without}
use Rattle.mb_tables.proofs.ListLaws.{In-filter, In-filter_only, range-only}
use Rattle.mb_tables.specs.Lists.{In}

-- a test keeps no more than there are
length-filter_most : {X : Type 0} (p : X → Bool) (xs : List X) → length (filter p xs) ≤ length xs
length-filter_most p [] = omega arith
length-filter_most {X} p (x ∷ xs) = by (p x) (length-filter_most p xs)
  where
    by : (t : Bool) → length (filter p xs) ≤ length xs →
        length (cond t (x ∷ filter p xs) (filter p xs)) ≤ suc (length xs)
    by true h = omega arith
    by false h = omega arith

-- fewer are kept of a list where one that stands in it is not
pub length-filter_less : {X : Type 0} (p : X → Bool) (x : X) (xs : List X) →
    In x xs → p x ≡ false → length (filter p xs) < length xs
unfolding In
length-filter_less p x [] i f = absurd i
length-filter_less {X} p x (y ∷ xs) (inl e) f = by (p y) (sym (ap p e) ∙ f)
  where
    by : (t : Bool) → t ≡ false → length (cond t (y ∷ filter p xs) (filter p xs)) < suc (length xs)
    by true g = absurd (cc)
    by false g = omega (arith, length-filter_most p xs)
length-filter_less {X} p x (y ∷ xs) (inr i) f = by (p y) (length-filter_less p x xs i f)
  where
    by : (t : Bool) → length (filter p xs) < length xs →
        length (cond t (y ∷ filter p xs) (filter p xs)) < suc (length xs)
    by true g = omega arith
    by false g = omega arith

-- what a test keeps passes it
pub In-filter_yes : {X : Type 0} (p : X → Bool) (x : X) (xs : List X) →
    In x (filter p xs) → p x ≡ true
unfolding In
In-filter_yes p x [] i = absurd i
In-filter_yes {X} p x (y ∷ xs) i = by (p y) refl i (λ j. In-filter_yes p x xs j)
  where
    by : (t : Bool) → p y ≡ t → In x (cond t (y ∷ filter p xs) (filter p xs)) →
        (In x (filter p xs) → p x ≡ true) → p x ≡ true
    by true e (inl f) later = ap p f ∙ e
    by true e (inr j) later = later j
    by false e j later = later j

-- a cell that isn't taken out stays
pub stays : (cell c : ℕ) (left : List ℕ) → c ≢ cell → In c left → In c (without cell left)
stays cell c left n i =
    In-filter (λ k. not (nat_eq k cell)) c left i (ap not (ne_eqb c cell n))

-- a number stands in a list or doesn't
pub cases_In : (x : ℕ) (xs : List ℕ) → In x xs ⊎ (In x xs → ⊥)
unfolding In
cases_In x [] = inr (λ i. i)
cases_In x (y ∷ xs) = by (cases_eq x y) (cases_In x xs)
  where
    by : (x ≡ y) ⊎ (x ≡ y → ⊥) → In x xs ⊎ (In x xs → ⊥) →
        ((x ≡ y) ⊎ In x xs) ⊎ (((x ≡ y) ⊎ In x xs) → ⊥)
    by (inl e) later = inl (inl e)
    by (inr n) (inl i) = inl (inr i)
    by (inr n) (inr m) = inr (λ i. elim i [ inl e ↦ n e | inr j ↦ m j ])

-- an element at a place stands in the list
pub get_or-in : {X : Type 0} (xs : List X) (k : ℕ) (d : X) → k < length xs → In (get_or xs k d) xs
unfolding In
get_or-in [] k d h = absurd (omega arith)
get_or-in (x ∷ xs) zero d h = inl refl
get_or-in (x ∷ xs) (suc k) d h = inr (get_or-in xs k d (omega arith))

-- a place of what stands in a list
pub In-get_or : {X : Type 0} (xs : List X) (x d : X) → In x xs →
    (j : ℕ) × (j < length xs) × (get_or xs j d ≡ x)
unfolding In
In-get_or [] x d i = absurd i
In-get_or (y ∷ xs) x d (inl e) = (0, omega arith, sym e)
In-get_or (y ∷ xs) x d (inr i) =
    let r = In-get_or xs x d i in
    let l = r.1 in
    (suc r.0, omega arith, r.2)

-- what a test keeps of rising cells rises
pub rises-filter : (p : ℕ → Bool) (cells : List ℕ) → Rises cells → Rises (filter p cells)
unfolding Rises
rises-filter p [] r = tt
rises-filter p (c ∷ cells) r = by (p c) (rises-filter p cells r.1)
  where
    by : (t : Bool) → Rises (filter p cells) → Rises (cond t (c ∷ filter p cells) (filter p cells))
    by true later = ((λ k i. r.0 k (In-filter_only p k cells i)), later)
    by false later = later

-- a range rises
pub rises-range : (a n : ℕ) → Rises (range_with_len a n)
unfolding Rises
rises-range a zero = tt
rises-range a (suc n) =
    ((λ k i. let r = range-only (a + 1) n k i in let l = r.0 in omega arith), rises-range (a + 1) n)

-- one number more of a range
range-more : (a n : ℕ) → range_with_len a (suc n) ≡ range_with_len a n ++ ((a + n) ∷ [])
range-more a zero = ap (λ k. k ∷ []) (omega arith)
range-more a (suc n) =
    let e : a + 1 + n ≡ a + suc n = omega arith in
    ap (λ l. a ∷ l) (range-more (a + 1) n ∙ ap (λ k. range_with_len (a + 1) n ++ (k ∷ [])) e)

-- one number more of a range from 0 on
pub range-next : (n : ℕ) → range_with_len 0 (n + 1) ≡ range_with_len 0 n ++ (n ∷ [])
range-next n =
    let e : n + 1 ≡ suc n = omega arith in
    let f : 0 + n ≡ n = omega arith in
    ap (λ k. range_with_len 0 k) e ∙ range-more 0 n
    ∙ ap (λ k. range_with_len 0 n ++ (k ∷ [])) f

-- the numbers of a range from 0 on are below its length
pub range-below : (n : ℕ) → All (λ k. k < n) (range_with_len 0 n)
range-below n = All-from_get_or (λ k. k < n) (range_with_len 0 n) 0
    (λ i l.
    let m : i < n = omega (arith, length-range_with_len 0 n) in
    omega (arith, get_or-range_with_len 0 n i 0 m))
