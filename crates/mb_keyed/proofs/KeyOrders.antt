-- Keys in another order.
use Rattle.std.proofs.Common.{List, [], ap, arith, cond, inl, inr, refl, subst, suc, sym, zero, ℕ, ◌∷◌, ◌≡◌, ◌≢◌, ◌≤◌, ◌⊎◌}
use Rattle.std.proofs.lemmas.Bool.{cases_eq, eq-eqb, ne_eqb}
use Rattle.std.proofs.lemmas.List.Sorted.{sum_by-IsPermutation}
use Rattle.std.specs.List.Sorted.{IsPermutation}
use Rattle.mb_claims.proofs.Occurrences.{AreDistinctKeys-occurs, In-occurring, In-occurs, occurrences-cons, once_where}
use Rattle.mb_claims.specs.Lists.{AreDistinctKeys, occurrences}
use Rattle.mb_tables.specs.Lists.{In}

-- a key is as often in a list as in that list in another order
occurrences-permuted : (key : ℕ) (xs ys : List ℕ) → IsPermutation xs ys →
    occurrences key ys ≡ occurrences key xs
occurrences-permuted key xs ys p = sum_by-IsPermutation _ xs ys p

-- a key of a list is one of the list in another order
pub In-permuted : (key : ℕ) (xs ys : List ℕ) → IsPermutation xs ys → In key xs → In key ys
In-permuted key xs ys p i =
    let some = In-occurs key xs i in
    let same = occurrences-permuted key xs ys p in
    In-occurring key ys (omega arith)

-- a key stands at most once among distinct keys
once-distinct : (key : ℕ) (xs : List ℕ) → AreDistinctKeys xs → occurrences key xs ≤ 1
once-distinct key [] d = omega arith
once-distinct key (x ∷ xs) d =
    by (cases_eq x key) (occurrences key xs) refl (once-distinct key xs d.1)
  where
    by : (x ≡ key) ⊎ (x ≢ key) → (n : ℕ) → occurrences key xs ≡ n → n ≤ 1 →
        occurrences key (x ∷ xs) ≤ 1
    by (inl e) zero none l =
        let one : once_where key x ≡ 1 = ap (λ t. cond t 1 0) (eq-eqb x key e) in
        omega (arith, occurrences-cons key x xs)
    by (inl e) (suc n) some l =
        absurd (d.0 (subst (λ k. In k xs) (sym e) (In-occurring key xs (omega arith))))
    by (inr ne) n same l =
        let none : once_where key x ≡ 0 = ap (λ t. cond t 1 0) (ne_eqb x key ne) in
        omega (arith, occurrences-cons key x xs)

-- distinct keys in another order are distinct
pub distinct-permuted : (xs ys : List ℕ) → IsPermutation xs ys → AreDistinctKeys xs →
    AreDistinctKeys ys
distinct-permuted xs ys p d =
    AreDistinctKeys-occurs ys (λ key i.
    let same = occurrences-permuted key xs ys p in
    let once = once-distinct key xs d in omega arith)
