-- How often a number stands in a list, after a write, an addition and a filter.
use Rattle.std.proofs.Common.{Bool, List, [], ap, arith, cond, eqb, false, get_or, inl, inr, length, refl, set, suc, sum, sym, true, zero, ℕ, ◌++◌, ◌+◌, ◌<◌, ◌∙◌, ◌∷◌, ◌≡◌, ◌≢◌, ◌≤◌, ◌⊎◌}
use Rattle.std.proofs.lemmas.Bool.{cases_eq, eq-eqb, ne_eqb}
use Rattle.std.proofs.lemmas.List.Sums.{get_or-le-sum_by, sum_by-append, sum_by-cons, sum_by-set}
use Rattle.std.specs.List.{filter}
use Rattle.mb_claims.specs.Lists.{AreDistinctKeys, occurrences}
use Rattle.mb_tables.proofs.ListLaws.{In-filter_only}
use Rattle.mb_tables.specs.Lists.{In}

-- a number counts once where it is the one counted, else not
abbrev pub once_where : ℕ → ℕ → ℕ
once_where n m = cond (eqb m n) 1 0

-- the number counted counts once
once_where-same : (n m : ℕ) → m ≡ n → once_where n m ≡ 1
once_where-same n m e = ap (λ t. cond t 1 0) (eq-eqb m n e)

-- any other doesn't
once_where-other : (n m : ℕ) → m ≢ n → once_where n m ≡ 0
once_where-other n m ne = ap (λ t. cond t 1 0) (ne_eqb m n ne)

-- how often a number stands in a longer list
pub occurrences-cons : (n m : ℕ) (xs : List ℕ) →
    occurrences n (m ∷ xs) ≡ once_where n m + occurrences n xs
occurrences-cons n m xs = sum_by-cons (λ k. cond (eqb k n) 1 0) m xs

-- how often a number stands in two lists together
pub occurrences-append : (n : ℕ) (xs ys : List ℕ) →
    occurrences n (xs ++ ys) ≡ occurrences n xs + occurrences n ys
occurrences-append n xs ys = sum_by-append (λ k. cond (eqb k n) 1 0) xs ys

-- how often a number that isn't 0 stands in a list after a 0 was written over
pub occurrences-fill : (n m i : ℕ) (xs : List ℕ) → n ≢ 0 → i < length xs → get_or xs i 0 ≡ 0 →
    occurrences n (set xs i m) ≡ once_where n m + occurrences n xs
occurrences-fill n m i xs pos l zero_there =
    let f : ℕ → ℕ = λ k. cond (eqb k n) 1 0 in
    let h : occurrences n (set xs i m) + f (get_or xs i 0) ≡ occurrences n xs + f m =
    sum_by-set f xs i m 0 l in
    let no : f (get_or xs i 0) ≡ 0 =
    ap f zero_there ∙ once_where-other n 0 (λ e. pos (sym e)) in
    let a : ℕ = f (get_or xs i 0) in
    let b : ℕ = f m in omega arith

-- a number stands in a list where it counts there
pub In-occurs : (n : ℕ) (xs : List ℕ) → In n xs → 1 ≤ occurrences n xs
unfolding In
In-occurs n [] i = absurd i
In-occurs n (x ∷ xs) (inl e) =
    let one : once_where n x ≡ 1 = once_where-same n x (sym e) in
    omega (arith, occurrences-cons n x xs, one)
In-occurs n (x ∷ xs) (inr i) =
    let h = In-occurs n xs i in omega (arith, occurrences-cons n x xs, h)

-- and the other way round
pub In-occurring : (n : ℕ) (xs : List ℕ) → 1 ≤ occurrences n xs → In n xs
unfolding In
In-occurring n [] h = absurd (omega arith)
In-occurring n (x ∷ xs) h = by (cases_eq x n) (In-occurring n xs)
  where
    by : (x ≡ n) ⊎ (x ≢ n) → (1 ≤ occurrences n xs → In n xs) → In n (x ∷ xs)
    by (inl e) more = inl (sym e)
    by (inr ne) more =
        let none : once_where n x ≡ 0 = once_where-other n x ne in
        inr (more (omega (arith, occurrences-cons n x xs, none)))

-- a number at some place stands in the list
pub In-at : (n i : ℕ) (xs : List ℕ) → i < length xs → get_or xs i 0 ≡ n → In n xs
unfolding In
In-at n i [] l e = absurd (omega arith)
In-at n zero (x ∷ xs) l e = inl (sym e)
In-at n (suc i) (x ∷ xs) l e = inr (In-at n i xs (omega arith) e)

-- what stands in a list stands at some place
pub place_of : (n : ℕ) (xs : List ℕ) → In n xs →
    (i : ℕ) × (i < length xs) × (get_or xs i 0 ≡ n)
unfolding In
place_of n [] i = absurd i
place_of n (x ∷ xs) (inl e) = (zero, omega arith, sym e)
place_of n (x ∷ xs) (inr i) =
    let h = place_of n xs i in (suc h.0, omega (arith, h.1), h.2)

-- each number of a list is at most their sum
pub In-le-sum : (n : ℕ) (xs : List ℕ) → In n xs → n ≤ sum xs
In-le-sum n xs i =
    let p = place_of n xs i in omega (arith, get_or-le-sum_by (λ y. y) xs p.0 0 p.1, p.2)

-- a number that stands at no place counts 0 times
pub occurrences-none : (n : ℕ) (xs : List ℕ) →
    ((i : ℕ) → i < length xs → get_or xs i 0 ≡ n → ⊥) → occurrences n xs ≡ 0
occurrences-none n [] h = refl
occurrences-none n (x ∷ xs) h =
    let none : once_where n x ≡ 0 =
    once_where-other n x (λ e. h zero (omega arith) e) in
    let rest = occurrences-none n xs (λ i l e. h (suc i) (omega arith) e) in
    omega (arith, occurrences-cons n x xs, none, rest)

-- a number that stands at one place at most counts at most once
pub occurrences-le_one : (n : ℕ) (xs : List ℕ) →
    ((i j : ℕ) → i < length xs → j < length xs → get_or xs i 0 ≡ n → get_or xs j 0 ≡ n → i ≡ j) →
    occurrences n xs ≤ 1
occurrences-le_one n [] h = omega arith
occurrences-le_one n (x ∷ xs) h = by (cases_eq x n) (occurrences-le_one n xs)
  where
    by : (x ≡ n) ⊎ (x ≢ n) →
        (((i j : ℕ) → i < length xs → j < length xs → get_or xs i 0 ≡ n → get_or xs j 0 ≡ n → i ≡ j)
        → occurrences n xs ≤ 1) →
        occurrences n (x ∷ xs) ≤ 1
    by (inl e) more =
        let none : occurrences n xs ≡ 0 = occurrences-none n xs (λ i l f.
        let clash : zero ≡ suc i = h zero (suc i) (omega arith) (omega arith) e f in omega arith) in
        let one : once_where n x ≡ 1 = once_where-same n x e in
        omega (arith, occurrences-cons n x xs, none, one)
    by (inr ne) more =
        let none : once_where n x ≡ 0 = once_where-other n x ne in
        let few = more (λ i j l m e f.
        let s : suc i ≡ suc j = h (suc i) (suc j) (omega arith) (omega arith) e f in omega arith) in
        omega (arith, occurrences-cons n x xs, none, few)

-- a number at some place counts
pub occurrences-at : (n i : ℕ) (xs : List ℕ) → i < length xs → get_or xs i 0 ≡ n →
    1 ≤ occurrences n xs
occurrences-at n i xs l e = In-occurs n xs (In-at n i xs l e)

-- a filter keeps numbers distinct
pub AreDistinctKeys-filter : (p : ℕ → Bool) (xs : List ℕ) → AreDistinctKeys xs →
    AreDistinctKeys (filter p xs)
AreDistinctKeys-filter p [] h = tt
AreDistinctKeys-filter p (y ∷ xs) h = by (p y) (AreDistinctKeys-filter p xs h.1)
  where
    by : (t : Bool) → AreDistinctKeys (filter p xs) →
        AreDistinctKeys (cond t (y ∷ filter p xs) (filter p xs))
    by true k = ((λ i. h.0 (In-filter_only p y xs i)), k)
    by false k = k

-- numbers that count at most once each are distinct
pub AreDistinctKeys-occurs : (xs : List ℕ) → ((n : ℕ) → In n xs → occurrences n xs ≤ 1) →
    AreDistinctKeys xs
unfolding In
AreDistinctKeys-occurs [] h = tt
AreDistinctKeys-occurs (x ∷ xs) h = (
  (λ i.
      let two = h x (inl refl) in
      let one : once_where x x ≡ 1 = once_where-same x x refl in
      omega (arith, occurrences-cons x x xs, one, In-occurs x xs i)),
  AreDistinctKeys-occurs xs (λ n i. let l = h n (inr i) in omega (arith, occurrences-cons n x xs)),
)
