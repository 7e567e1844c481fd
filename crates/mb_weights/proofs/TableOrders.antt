-- Tables that are listed in another order.
use Rattle.std.proofs.Common.{Bool, List, [], ap, arith, cond, false, get_or, inl, inr, length, nat_eq, nat_le, refl, suc, sym, true, ℕ, ◌+◌, ◌<◌, ◌∙◌, ◌∷◌, ◌≡◌, ◌≤◌, ◌↔◌, ◌⊎◌}
use Rattle.std.proofs.lemmas.Bool.{cases_Bool}
use Rattle.std.proofs.lemmas.List.Sorted.{IsPermutation-cons, IsPermutation-refl, IsPermutation-remove, IsPermutation-sym, IsPermutation-trans, sum_by-IsPermutation, sum_by_popped}
use Rattle.std.proofs.lemmas.List.Sums.{sum_by-cons}
use Rattle.std.specs.List.{filter, remove, sum_by}
use Rattle.std.specs.List.Sorted.{IsPermutation}
use lib.Pointwise.{bytes_decides, pointwise}
use Rattle.mb_matrix.proofs.AscendingLists.{none_if, occurs_never, one_if}
use Rattle.mb_matrix.specs.Ascending.{occurrences}
use Rattle.mb_matrix.specs.Measure.{Weighting}
use Rattle.mb_tables.proofs.StepTests.{In-from_stands_in, stands_in-yes}
use Rattle.mb_tables.specs.Lists.{In, stands_in}
use Rattle.mb_weights.specs.PValue.{below_of, whole_of}
use Rattle.mb_weights.specs.Weight.{weight_of}

-- the sum over all tables
pub whole-permutation : (m : Weighting) (tables others : List (List ℕ)) →
    IsPermutation tables others → whole_of m tables ≡ whole_of m others
whole-permutation m tables others p = sym (sum_by-IsPermutation (weight_of m) tables others p)

-- a sum over what a test keeps is a sum over all, where what fails it counts as 0
sum-kept : {X : Type 0} (test : X → Bool) (f : X → ℕ) (xs : List X) →
    sum_by f (filter test xs) ≡ sum_by (λ x. cond (test x) (f x) 0) xs
sum-kept test f [] = refl
sum-kept {X} test f (x ∷ xs) =
    by (test x) (sum-kept test f xs) ∙ sym (sum_by-cons (λ x. cond (test x) (f x) 0) x xs)
  where
    by : (t : Bool) →
        sum_by f (filter test xs) ≡ sum_by (λ (x : X). cond (test x) (f x) 0) xs →
        sum_by f (cond t (x ∷ filter test xs) (filter test xs))
        ≡ cond t (f x) 0 + sum_by (λ (x : X). cond (test x) (f x) 0) xs
    by true ih = sum_by-cons f x (filter test xs) ∙ ap (λ n. f x + n) ih
    by false ih = omega arith

-- the sum over the tables that are no likelier than an observed one
pub below-permutation : (m : Weighting) (u : List ℕ) (tables others : List (List ℕ)) →
    IsPermutation tables others → below_of m u tables ≡ below_of m u others
below-permutation m u tables others p =
    sum-kept (λ v. nat_le (weight_of m v) (weight_of m u)) (weight_of m) tables
    ∙ sym (sum_by-IsPermutation
    (λ v. cond (nat_le (weight_of m v) (weight_of m u)) (weight_of m v) 0) tables others p)
    ∙ sym (sum-kept (λ v. nat_le (weight_of m v) (weight_of m u)) (weight_of m) others)

-- the place of a listed table
place_of : (v : List ℕ) (list : List (List ℕ)) → In v list →
    (k : ℕ) × (k < length list) × (v ≡ get_or list k v)
unfolding In
place_of v [] there = absurd there
place_of v (x ∷ list) (inl same) = (0, omega arith, same)
place_of v (x ∷ list) (inr later) =
    let r = place_of v list later in (suc r.0, omega (arith, r.1), r.2)

-- a table that occurs is listed
In-occurrences : (v : List ℕ) (list : List (List ℕ)) → 1 ≤ occurrences v list → In v list
unfolding In
In-occurrences v [] h = absurd (omega arith)
In-occurrences v (x ∷ list) h =
    by (pointwise nat_eq x v) refl
    (sum_by-cons (λ u. cond (pointwise nat_eq u v) 1 0) x list)
    (λ more. In-occurrences v list more)
  where
    by : (t : Bool) → pointwise nat_eq x v ≡ t →
        occurrences v (x ∷ list) ≡ cond (pointwise nat_eq x v) 1 0 + occurrences v list →
        (1 ≤ occurrences v list → In v list) → (v ≡ x) ⊎ In v list
    by true e sums ih = inl (sym ((bytes_decides x v).0 e))
    by false e sums ih =
        let f = none_if (pointwise nat_eq x v) e in inr (ih (omega (arith, sums, f, h)))

-- the first table occurs
first_occurs : (x : List ℕ) (list : List (List ℕ)) →
    occurrences x (x ∷ list) ≡ 1 + occurrences x list
first_occurs x list =
    let e = sum_by-cons (λ u. cond (pointwise nat_eq u x) 1 0) x list in
    let f = one_if (pointwise nat_eq x x) ((bytes_decides x x).1 refl) in omega arith

-- lists in which each table occurs as often differ in the order alone
alike-permutation : (tables others : List (List ℕ)) →
    ((v : List ℕ) → occurrences v tables ≡ occurrences v others) → IsPermutation tables others
unfolding In
alike-permutation [] [] same = IsPermutation-refl []
alike-permutation [] (y ∷ others) same =
    let e = same y in let f = first_occurs y others in absurd (omega arith)
alike-permutation (x ∷ tables) others same =
    let e = same x in
    let f = first_occurs x tables in
    let there = place_of x others (In-occurrences x others (omega arith)) in
    let taken = IsPermutation-remove others there.0 x there.1 there.2 in
    let rest =
    alike-permutation tables (remove others there.0)
    (λ v.
    let g = sum_by_popped (λ u. cond (pointwise nat_eq u v) 1 0) x others
    (remove others there.0) taken in
    let h = sum_by-cons (λ u. cond (pointwise nat_eq u v) 1 0) x tables in
    let i = same v in omega arith) in
    IsPermutation-trans (x ∷ tables) (x ∷ remove others there.0) others
    (IsPermutation-cons x tables (remove others there.0) rest)
    (IsPermutation-sym others (x ∷ remove others there.0) taken)

-- whether a table is listed is decided
decide_In : (v : List ℕ) (list : List (List ℕ)) → In v list ⊎ (In v list → ⊥)
decide_In v list =
    elim (cases_Bool (stands_in list v)) [
      | inl yes_v ↦ inl (In-from_stands_in list v yes_v)
      | inr no_v ↦
          inr (λ i. let e : true ≡ false = sym (stands_in-yes list v i) ∙ no_v in cc)
    ]

-- two lists with the same tables, each once, differ in the order alone
pub once-permutation : (tables others : List (List ℕ)) →
    ((v : List ℕ) → In v tables ↔ In v others) →
    ((v : List ℕ) → In v tables → occurrences v tables ≡ 1) →
    ((v : List ℕ) → In v others → occurrences v others ≡ 1) → IsPermutation tables others
once-permutation tables others same once each =
    alike-permutation tables others (λ v.
    elim (decide_In v tables) [
      | inl there ↦ once v there ∙ sym (each v ((same v).0 there))
      | inr absent ↦
          occurs_never v tables absent
          ∙ sym (occurs_never v others (λ i. absent ((same v).1 i)))
    ])
