-- Parts of a list of tables, each with an owner.
use Rattle.std.proofs.Common.{List, Some, [], ap, append_assoc, arith, inl, inr, refl, slice_get, subst, suc, sym, zero, ℕ, ◌++◌, ◌+◌, ◌∙◌, ◌∷◌, ◌≡◌, ◌⊎◌}
use Rattle.std.proofs.lemmas.List.Sorted.{IsPermutation-append, IsPermutation-append_comm, IsPermutation-append_right, IsPermutation-refl, IsPermutation-trans}
use Rattle.std.specs.List.Sorted.{IsPermutation}
use Rattle.mb_rings.proofs.DistinctTables.{distinct-append, distinct-cons, distinct-none, distinct-permutation, permutation-In}
use Rattle.mb_rings.proofs.ListElements.{In-flat, flat-In}
use Rattle.mb_rings.specs.Ring.{Ring, tables_of}
use Rattle.mb_rings.specs.loops.Found.{AreDistinct}
use Rattle.mb_tables.specs.Lists.{In}
use Rattle.mb_walk.specs.Owned.{owner_of}
use Rattle.mb_walk.specs.loops.Piles.{AreOwned, IsOwned, IsPut}

-- a table stands in the part of its owner
pub In-part : (n : ℕ) (parts : List Ring) → AreOwned n parts → (j : ℕ) (part : Ring) →
    slice_get parts j ≡ Some part → (v : List ℕ) → owner_of n v ≡ j → In v (tables_of parts) →
    In v part
In-part n parts h j part e v owned i =
    let r = In-flat (λ (p : Ring). p) v parts i in
    let k : ℕ = r.0 in
    let same : k ≡ j = sym ((h k r.1 r.2).owned v r.3) ∙ owned in
    let there : slice_get parts j ≡ Some r.1 = subst (λ m. slice_get parts m ≡ Some r.1) same r.2 in
    let is : r.1 ≡ part = cc in
    subst (λ p. In v p) is r.3

-- a table of a part is one of all
pub part-In : (parts : List Ring) (j : ℕ) (part : Ring) → slice_get parts j ≡ Some part →
    (v : List ℕ) → In v part → In v (tables_of parts)
part-In parts j part e v i = flat-In (λ (p : Ring). p) v parts j part e i

-- no table stands twice in parts from a place on
distinct-from : (n k : ℕ) (parts : List Ring) →
    ((j : ℕ) (part : Ring) → slice_get parts j ≡ Some part → IsOwned n (k + j) part) →
    AreDistinct (tables_of parts)
distinct-from n k [] h = distinct-none
distinct-from n k (p ∷ parts) h =
    distinct-append p (tables_of parts) (h 0 p refl).once
    (distinct-from n (k + 1) parts (λ j part e.
    let same : k + suc j ≡ k + 1 + j = omega arith in
    subst (λ m. IsOwned n m part) same (h (suc j) part e)))
    (λ v i a.
    let r = In-flat (λ (q : Ring). q) v parts a in
    let here = (h 0 p refl).owned v i in
    let there = (h (suc r.0) r.1 r.2).owned v r.3 in
    let both : k + 0 ≡ k + suc r.0 = sym here ∙ there in absurd (omega arith))

-- no table stands twice in all parts
pub distinct-parts : (n : ℕ) (parts : List Ring) → AreOwned n parts →
    AreDistinct (tables_of parts)
distinct-parts n parts h =
    distinct-from n 0 parts (λ j part e.
    let same : j ≡ 0 + j = omega arith in subst (λ m. IsOwned n m part) same (h j part e))

-- a part with a table more
pub part-put : (n j : ℕ) (table : List ℕ) (part more : Ring) → IsOwned n j part →
    owner_of n table ≡ j → (In table part → ⊥) → IsPermutation (table ∷ part) more →
    IsOwned n j more
unfolding In
part-put n j table part more h owned new p = record {
  once =
      distinct-permutation (table ∷ part) more p (distinct-cons table part new h.once);
  owned = λ v i. elim (permutation-In (table ∷ part) more v p i) [
    | inl e ↦ ap (owner_of n) e ∙ owned
    | inr k ↦ h.owned v k
  ];
}

-- the pile that has a table more, among those behind the first
put-rest : (j : ℕ) (table : List ℕ) (b a : Ring) (bs as_ : List Ring) →
    IsPut (suc j) table (b ∷ bs) (a ∷ as_) → IsPut j table bs as_
put-rest j table b a bs as_ h = record {
  part = h.part;
  was = h.was;
  more = h.more;
  put = h.put;
  is = h.is;
  length = let e = h.length in omega arith;
  others = λ k n. h.others (suc k) (λ e. n (let f = e in omega arith));
}

-- lists of the same elements
same-elements : (xs ys : List Ring) → ((k : ℕ) → slice_get xs k ≡ slice_get ys k) → xs ≡ ys
same-elements [] [] h = refl
same-elements [] (y ∷ ys) h = let e = h 0 in cc
same-elements (x ∷ xs) [] h = let e = h 0 in cc
same-elements (x ∷ xs) (y ∷ ys) h =
    let e : x ≡ y = (let f = h 0 in cc) in
    let r = same-elements xs ys (λ k. h (suc k)) in cc

-- the tables of all piles, after one has a table more
pub put-tables : (j : ℕ) (table : List ℕ) (before after : List Ring) →
    IsPut j table before after → IsPermutation (table ∷ tables_of before) (tables_of after)
put-tables j table [] after h = let e = h.was in cc
put-tables j table (b ∷ bs) [] h = let e = h.length in absurd (omega arith)
put-tables zero table (b ∷ bs) (a ∷ as_) h =
    let e : b ≡ h.part = (let f = h.was in cc) in
    let g : a ≡ h.more = (let f = h.is in cc) in
    let rest : bs ≡ as_ =
    same-elements bs as_ (λ k. sym (h.others (suc k) (λ f. absurd (omega arith)))) in
    let p : IsPermutation (table ∷ b) a =
    subst (λ t. IsPermutation (table ∷ b) t) (sym g)
    (subst (λ t. IsPermutation (table ∷ t) h.more) (sym e) h.put) in
    subst (λ list. IsPermutation (table ∷ (b ++ tables_of bs)) (a ++ tables_of list)) rest
    (IsPermutation-append (table ∷ b) a (tables_of bs) (tables_of bs) p
    (IsPermutation-refl (tables_of bs)))
put-tables (suc j) table (b ∷ bs) (a ∷ as_) h =
    let e : a ≡ b = (let f = h.others 0 (λ g. absurd (omega arith)) in cc) in
    let rest = put-tables j table bs as_ (put-rest j table b a bs as_ h) in
    let front : IsPermutation ((table ∷ b) ++ tables_of bs) ((b ++ table ∷ []) ++ tables_of bs) =
    IsPermutation-append (table ∷ b) (b ++ table ∷ []) (tables_of bs) (tables_of bs)
    (IsPermutation-append_comm (table ∷ []) b) (IsPermutation-refl (tables_of bs)) in
    let front_too : IsPermutation (table ∷ (b ++ tables_of bs)) (b ++ (table ∷ tables_of bs)) =
    subst (λ list. IsPermutation (table ∷ (b ++ tables_of bs)) list)
    (append_assoc b (table ∷ []) (tables_of bs)) front in
    subst (λ t. IsPermutation (table ∷ (b ++ tables_of bs)) (t ++ tables_of as_)) (sym e)
    (IsPermutation-trans (table ∷ (b ++ tables_of bs)) (b ++ (table ∷ tables_of bs))
    (b ++ tables_of as_) front_too
    (IsPermutation-append_right b (table ∷ tables_of bs) (tables_of as_) rest))

-- the piles are parts again
pub parts-put : (n j : ℕ) (table : List ℕ) (before after : List Ring) → AreOwned n before →
    (h : IsPut j table before after) → owner_of n table ≡ j → (In table h.part → ⊥) →
    AreOwned n after
parts-put n j table before after h p owned new k part e = by (cases k j)
  where
    cases : (a b : ℕ) → (a ≡ b) ⊎ (a ≡ b → ⊥)
    cases a b = grind arith

    by : (k ≡ j) ⊎ (k ≡ j → ⊥) → IsOwned n k part
    by (inl same) =
        let here : slice_get after j ≡ Some part =
        subst (λ m. slice_get after m ≡ Some part) same e in
        let is : p.more ≡ part = (let f = p.is in cc) in
        subst (λ m. IsOwned n m part) (sym same)
        (subst (IsOwned n j) is
        (part-put n j table p.part p.more (h j p.part p.was) owned new p.put))
    by (inr other) = h k part (sym (p.others k other) ∙ e)
