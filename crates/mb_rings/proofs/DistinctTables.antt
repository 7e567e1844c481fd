-- Lists in which no table stands twice.
use Rattle.std.proofs.lemmas.List.Sums.{sum_by-cons}
use Rattle.std.proofs.Common.{Bool, List, [], arith, cond, false, inl, inr, length, nat_eq, refl, subst, sym, true, ℕ, ◌++◌, ◌+◌, ◌∙◌, ◌∷◌, ◌≡◌, ◌≤◌, ◌⊎◌}
use Rattle.std.proofs.lemmas.Cmp.{nat_list_eq_equiv}
use Rattle.std.proofs.lemmas.List.Sorted.{list_any-IsPermutation}
use Rattle.std.proofs.lemmas.Map.Keys.{IsDistinct-IsPermutation}
use Rattle.std.proofs.lemmas.Map.Made.{length-le_from_is_member}
use Rattle.std.specs.List.{AllByRecursion, IsDistinct}
use Rattle.std.specs.List.Sorted.{IsPermutation}
use Rattle.mb_matrix.proofs.AscendingLists.{none_if, occurs_never, one_if}
use Rattle.mb_matrix.specs.Ascending.{occurrences}
use Rattle.mb_rings.specs.loops.Found.{AreDistinct}
use Rattle.mb_tables.proofs.ListLaws.{In-cases, In-right}
use Rattle.mb_tables.specs.Lists.{In}
use Rattle.mb_tables.proofs.StepTests.{In-from_stands_in, stands_in-yes}
use lib.Pointwise.{bytes_decides, pointwise}

-- a table that equals none of the list
none-equal : (x : List ℕ) (xs : List (List ℕ)) → (In x xs → ⊥) →
    AllByRecursion (λ y. pointwise nat_eq x y ≡ false) xs
unfolding In
none-equal x [] h = tt
none-equal x (y ∷ xs) h = (by (pointwise nat_eq x y) refl, none-equal x xs (λ i. h (inr i)))
  where
    by : (t : Bool) → pointwise nat_eq x y ≡ t → pointwise nat_eq x y ≡ false
    by true e = absurd (h (inl ((bytes_decides x y).0 e)))
    by false e = e

-- and the other way round
equal-none : (x : List ℕ) (xs : List (List ℕ)) →
    AllByRecursion (λ y. pointwise nat_eq x y ≡ false) xs → In x xs → ⊥
unfolding In
equal-none x [] h i = i
equal-none x (y ∷ xs) h (inl e) =
    let f = (bytes_decides x y).1 e in let g : true ≡ false = sym f ∙ h.0 in cc
equal-none x (y ∷ xs) h (inr i) = equal-none x xs h.1 i

-- the empty list
pub distinct-none : AreDistinct []
unfolding IsDistinct
distinct-none = tt

-- a new table in front
pub distinct-cons : (x : List ℕ) (xs : List (List ℕ)) → (In x xs → ⊥) → AreDistinct xs →
    AreDistinct (x ∷ xs)
unfolding IsDistinct
distinct-cons x xs h d = (none-equal x xs h, d)

-- the first table does not stand in the rest
pub distinct-head : (x : List ℕ) (xs : List (List ℕ)) → AreDistinct (x ∷ xs) → In x xs → ⊥
unfolding IsDistinct
distinct-head x xs d i = equal-none x xs d.0 i

-- the rest
pub distinct-tail : (x : List ℕ) (xs : List (List ℕ)) → AreDistinct (x ∷ xs) → AreDistinct xs
unfolding IsDistinct
distinct-tail x xs d = d.1

-- the second of two lists
pub distinct-right : (xs ys : List (List ℕ)) → AreDistinct (xs ++ ys) → AreDistinct ys
distinct-right [] ys d = d
distinct-right (x ∷ xs) ys d = distinct-right xs ys (distinct-tail x (xs ++ ys) d)

-- two lists have no table in common
pub distinct-apart : (xs ys : List (List ℕ)) → AreDistinct (xs ++ ys) → (v : List ℕ) → In v xs →
    In v ys → ⊥
unfolding In
distinct-apart [] ys d v i j = i
distinct-apart (x ∷ xs) ys d v (inl e) j =
    distinct-head x (xs ++ ys) d (In-right x xs ys (subst (λ u. In u ys) e j))
distinct-apart (x ∷ xs) ys d v (inr i) j =
    distinct-apart xs ys (distinct-tail x (xs ++ ys) d) v i j

-- two distinct lists without a common table
pub distinct-append : (xs ys : List (List ℕ)) → AreDistinct xs → AreDistinct ys →
    ((v : List ℕ) → In v xs → In v ys → ⊥) → AreDistinct (xs ++ ys)
unfolding In
distinct-append [] ys d e h = e
distinct-append (x ∷ xs) ys d e h =
    distinct-cons x (xs ++ ys)
    (λ i. elim (In-cases x xs ys i) [
      | inl j ↦ distinct-head x xs d j
      | inr j ↦ h x (inl refl) j
    ])
    (distinct-append xs ys (distinct-tail x xs d) e (λ v i j. h v (inr i) j))

-- a new table at the end
pub distinct-push : (xs : List (List ℕ)) (x : List ℕ) → AreDistinct xs → (In x xs → ⊥) →
    AreDistinct (xs ++ x ∷ [])
unfolding In
distinct-push xs x d h =
    distinct-append xs (x ∷ []) d (distinct-cons x [] (λ i. i) distinct-none)
    (λ v i j. elim j [ inl e ↦ h (subst (λ u. In u xs) e i) | inr k ↦ k ])

-- equality of tables goes both ways
table_eq-flips : (x y : List ℕ) → pointwise nat_eq x y ≡ pointwise nat_eq y x
table_eq-flips x y = by (pointwise nat_eq x y) (pointwise nat_eq y x) refl refl
  where
    by : (s t : Bool) → pointwise nat_eq x y ≡ s → pointwise nat_eq y x ≡ t → s ≡ t
    by true t e f = sym ((bytes_decides y x).1 (sym ((bytes_decides x y).0 e))) ∙ f
    by false true e f = sym e ∙ (bytes_decides x y).1 (sym ((bytes_decides y x).0 f))
    by false false e f = refl

-- the tables in another order
pub distinct-permutation : (xs ys : List (List ℕ)) → IsPermutation xs ys → AreDistinct xs →
    AreDistinct ys
distinct-permutation xs ys p d =
    IsDistinct-IsPermutation (pointwise nat_eq) table_eq-flips xs ys p d

-- a table of a list is one of the list in another order
pub In-permutation : (xs ys : List (List ℕ)) (v : List ℕ) → IsPermutation xs ys → In v xs → In v ys
In-permutation xs ys v p i =
    In-from_stands_in ys v
    (sym (list_any-IsPermutation (pointwise nat_eq v) xs ys p) ∙ stands_in-yes xs v i)

-- and the other way round
pub permutation-In : (xs ys : List (List ℕ)) (v : List ℕ) → IsPermutation xs ys → In v ys → In v xs
permutation-In xs ys v p i =
    In-from_stands_in xs v
    (list_any-IsPermutation (pointwise nat_eq v) xs ys p ∙ stands_in-yes ys v i)

-- distinct tables of a list are at most as many as its tables
pub length-le_distinct : (xs ys : List (List ℕ)) → AreDistinct xs →
    ((v : List ℕ) → In v xs → In v ys) → length xs ≤ length ys
length-le_distinct xs ys d h =
    length-le_from_is_member nat_list_eq_equiv xs ys d
    (λ v e. stands_in-yes ys v (h v (In-from_stands_in xs v e)))

-- a table of a list in which no table stands twice stands there once
pub occurrences-distinct : (v : List ℕ) (list : List (List ℕ)) → AreDistinct list → In v list →
    occurrences v list ≡ 1
unfolding In
occurrences-distinct v [] d i = absurd i
occurrences-distinct v (x ∷ list) d i =
    by (pointwise nat_eq x v) refl i
    (sum_by-cons (λ u. cond (pointwise nat_eq u v) 1 0) x list)
    (λ j. occurrences-distinct v list (distinct-tail x list d) j)
  where
    by : (t : Bool) → pointwise nat_eq x v ≡ t → (v ≡ x) ⊎ In v list →
        occurrences v (x ∷ list) ≡ cond (pointwise nat_eq x v) 1 0 + occurrences v list →
        (In v list → occurrences v list ≡ 1) → occurrences v (x ∷ list) ≡ 1
    by true e h sums ih =
        let same = (bytes_decides x v).0 e in
        let none =
        occurs_never v list (λ j. distinct-head x list d (subst (λ u. In u list) (sym same) j)) in
        let one = one_if (pointwise nat_eq x v) e in omega arith
    by false e (inl f) sums ih =
        let g : true ≡ false = sym ((bytes_decides x v).1 (sym f)) ∙ e in cc
    by false e (inr j) sums ih =
        let rest = ih j in let zero = none_if (pointwise nat_eq x v) e in omega arith
