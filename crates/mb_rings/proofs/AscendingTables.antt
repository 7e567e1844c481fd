-- Ascending lists of tables are determined by their tables.
use Rattle.std.proofs.Common.{Bool, List, [], ap, arith, cond, false, get_or, inl, inr, length, refl, subst, suc, sym, true, ℕ, ◌+◌, ◌<◌, ◌∙◌, ◌∷◌, ◌≡◌}
use Rattle.std.proofs.lemmas.Cmp.{nat_list_cmp_total, tied_itself}
use Rattle.std.proofs.lemmas.List.Sorted.{ranks_by, sorted_far}
use Rattle.std.specs.Cmp.Lexicographic.{slice_cmp}
use Rattle.std.specs.FinMap.{nat_cmp-IsAntisymmetric, slice_cmp-IsAntisymmetric}
use Rattle.std.specs.List.{filter}
use Rattle.std.specs.List.Sorted.{IsSorted}
use Rattle.std.specs.Ordering.{is_lt, nat_cmp, ordering_reverse}
use Rattle.std.specs.declared.cmp.Ordering.{Ordering}
use Rattle.std.specs.declared.cmp.Ordering.TheVariants.{Equal, Greater, Less}
use Rattle.mb_matrix.specs.Ascending.{Ascends}
use Rattle.mb_rings.proofs.DistinctTables.{distinct-cons, distinct-head, distinct-none, distinct-tail}
use Rattle.mb_rings.specs.loops.Found.{AreDistinct}
use Rattle.mb_tables.proofs.ListLaws.{In-filter_only}
use Rattle.mb_tables.specs.Lists.{In}

-- no table comes before itself
pub Less-never_itself : (u : List ℕ) → slice_cmp nat_cmp u u ≡ Less → ⊥
Less-never_itself u e =
    let f : Less ≡ Equal = sym e ∙ tied_itself nat_list_cmp_total u in cc

-- of two tables at most one comes before the other
pub Less-one_way : (u v : List ℕ) → slice_cmp nat_cmp u v ≡ Less → slice_cmp nat_cmp v u ≡ Less → ⊥
Less-one_way u v e f =
    let g = nat_list_cmp_total.antisymm u v in
    let h : Less ≡ Greater = sym e ∙ g ∙ ap ordering_reverse f in cc

-- some of an ascending list ascend
pub ascends-filter : (p : List ℕ → Bool) (xs : List (List ℕ)) → Ascends xs → Ascends (filter p xs)
unfolding Ascends
ascends-filter p [] a = tt
ascends-filter p (x ∷ xs) a = by (p x) (ascends-filter p xs a.1)
  where
    by : (t : Bool) → Ascends (filter p xs) → Ascends (cond t (x ∷ filter p xs) (filter p xs))
    by true h = ((λ v i. a.0 v (In-filter_only p v xs i)), h)
    by false h = h

-- the first tables of two ascending lists of the same tables
first-same : (x y : List ℕ) (xs ys : List (List ℕ)) → Ascends (x ∷ xs) → Ascends (y ∷ ys) →
    In x (y ∷ ys) → In y (x ∷ xs) → x ≡ y
unfolding Ascends In
first-same x y xs ys a b (inl e) j = e
first-same x y xs ys a b (inr i) (inl e) = sym e
first-same x y xs ys a b (inr i) (inr j) = absurd (Less-one_way x y (a.0 y j) (b.0 x i))

-- the tables after the first one
rest-same : (x y : List ℕ) (xs ys : List (List ℕ)) → Ascends (x ∷ xs) → x ≡ y →
    ((v : List ℕ) → In v (x ∷ xs) → In v (y ∷ ys)) → (v : List ℕ) → In v xs → In v ys
unfolding Ascends In
rest-same x y xs ys a e h v i =
    elim (h v (inr i)) [
      | inl f ↦ absurd (Less-never_itself x (a.0 x (subst (λ u. In u xs) (f ∙ sym e) i)))
      | inr j ↦ j
    ]

-- two ascending lists of the same tables are equal
pub ascends-same : (xs ys : List (List ℕ)) → Ascends xs → Ascends ys →
    ((v : List ℕ) → In v xs → In v ys) → ((v : List ℕ) → In v ys → In v xs) → xs ≡ ys
unfolding Ascends In
ascends-same [] [] a b h k = refl
ascends-same [] (y ∷ ys) a b h k = absurd (k y (inl refl))
ascends-same (x ∷ xs) [] a b h k = absurd (h x (inl refl))
ascends-same (x ∷ xs) (y ∷ ys) a b h k =
    let e = first-same x y xs ys a b (h x (inl refl)) (k y (inl refl)) in
    let f =
    ascends-same xs ys a.1 b.1 (rest-same x y xs ys a e h) (rest-same y x ys xs b (sym e) k) in
    cc

-- no table stands twice in an ascending list
pub distinct-ascends : (xs : List (List ℕ)) → Ascends xs → AreDistinct xs
unfolding Ascends
distinct-ascends [] a = distinct-none
distinct-ascends (x ∷ xs) a =
    distinct-cons x xs (λ i. Less-never_itself x (a.0 x i)) (distinct-ascends xs a.1)

-- the place of a table in a list
place-of : (v : List ℕ) (xs : List (List ℕ)) → In v xs →
    (k : ℕ) × (k < length xs) × (get_or xs k v ≡ v)
unfolding In
place-of v [] i = absurd i
place-of v (x ∷ xs) (inl e) = (0, omega arith, sym e)
place-of v (x ∷ xs) (inr i) = let r = place-of v xs i in (suc r.0, omega arith, r.2)

-- two different tables of which the second does not come before the first
less-from_not : (u v : List ℕ) → is_lt (slice_cmp nat_cmp v u) ≡ false → (u ≡ v → ⊥) →
    slice_cmp nat_cmp u v ≡ Less
less-from_not u v e h = by (slice_cmp nat_cmp v u) refl
  where
    by : (o : Ordering) → slice_cmp nat_cmp v u ≡ o → slice_cmp nat_cmp u v ≡ Less
    by Less f = let g : true ≡ false = ap is_lt (sym f) ∙ e in cc
    by Equal f = absurd (h (sym (slice_cmp-IsAntisymmetric nat_cmp-IsAntisymmetric v u f)))
    by Greater f = nat_list_cmp_total.antisymm u v ∙ ap ordering_reverse f

-- the rest of a sorted list is sorted
sorted-tail : (x : List ℕ) (xs : List (List ℕ)) → IsSorted (slice_cmp nat_cmp) (x ∷ xs) →
    IsSorted (slice_cmp nat_cmp) xs
sorted-tail x xs s k z l m =
    let e : suc k + 1 ≡ suc (k + 1) = omega arith in
    subst (λ n. is_lt (slice_cmp nat_cmp (get_or (x ∷ xs) n z) (get_or xs k z)) ≡ false) e
    (s (suc k) z (omega arith) (omega arith))

-- a sorted list in which no table stands twice ascends
pub ascends-sorted : (xs : List (List ℕ)) → IsSorted (slice_cmp nat_cmp) xs → AreDistinct xs →
    Ascends xs
unfolding Ascends
ascends-sorted [] s d = tt
ascends-sorted (x ∷ xs) s d = (
  (λ v i. let r = place-of v xs i in
      let e =
      sorted_far (λ a b. is_lt (slice_cmp nat_cmp a b)) (ranks_by nat_list_cmp_total (λ a. a))
      (x ∷ xs) s 0 (suc r.0) v (omega arith) (omega arith) in
      let f : is_lt (slice_cmp nat_cmp v x) ≡ false =
      subst (λ w. is_lt (slice_cmp nat_cmp w x) ≡ false) r.2 e in
      less-from_not x v f
      (λ g. distinct-head x xs d (subst (λ w. In w xs) (sym g) i))),
  ascends-sorted xs (sorted-tail x xs s) (distinct-tail x xs d),
)
