-- The owners at the start of a walk.
use Rattle.std.proofs.Common.{List, [], ap, append-nil, arith, inl, inr, length, length-append, subst, sym, ℕ, ◌++◌, ◌+◌, ◌<◌, ◌∙◌, ◌∷◌, ◌≡◌, ◌≤◌, ◌⊎◌, Some, slice_get}
use Rattle.std.proofs.lemmas.List.{length-map, map-append}
use Rattle.std.specs.List.Sorted.{IsPermutation}
use Rattle.mb_rings.proofs.DistinctTables.{distinct-cons, distinct-none, distinct-permutation, permutation-In}
use Rattle.mb_rings.proofs.RingSteps.{tables_of-push}
use Rattle.mb_rings.specs.Ring.{Ring, tables_of}
use Rattle.mb_rings.specs.loops.Found.{AreDistinct}
use Rattle.mb_tables.proofs.ListLaws.{get-front, get-last, place-within}
use Rattle.mb_tables.specs.Lists.{In}
use Rattle.mb_walk.specs.Owned.{owner_of}
use Rattle.mb_walk.specs.loops.Piles.{AreOwned, IsOwned, kept}
use Rattle.mb_walk.specs.declared.owner.Owner.{Owner}

-- the parts of the first owners: that of the first table's owner has it, and the others have none
pub record AreOpen (n : ℕ) (start : List ℕ) (parts : List Ring) : Type 0 where
  pub parts_are : AreOwned n parts
  pub before : length parts ≤ owner_of n start → tables_of parts ≡ []
  pub after : owner_of n start < length parts → IsPermutation (start ∷ []) (tables_of parts)

-- one owner more
open-part : (n : ℕ) (start : List ℕ) (parts : List Ring) (part : Ring) → AreOpen n start parts →
    (length parts ≡ owner_of n start → IsPermutation (start ∷ []) part) →
    ((length parts ≡ owner_of n start → ⊥) → part ≡ []) → AreOpen n start (parts ++ part ∷ [])
unfolding In
open-part n start parts part h one none = record {
  parts_are = λ j p e. at j p e (places j (length parts) (within j p e));
  before = λ l.
      let e = length-append parts (part ∷ []) in
      let rest : part ≡ [] = none (λ s. absurd (omega arith)) in
      tables_of-push parts part ∙ ap (λ list. list ++ part) (h.before (omega arith)) ∙ rest;
  after = λ l. subst (IsPermutation (start ∷ [])) (sym (tables_of-push parts part))
      (elim (places (owner_of n start) (length parts) (below l)) [
        | inl m ↦
            let rest : part ≡ [] = none (λ s. absurd (omega arith)) in
            subst (λ list. IsPermutation (start ∷ []) (tables_of parts ++ list)) (sym rest)
            (subst (IsPermutation (start ∷ [])) (sym (append-nil (tables_of parts))) (h.after m))
        | inr m ↦
            subst (λ list. IsPermutation (start ∷ []) (list ++ part))
            (sym (h.before (omega arith))) (one (sym m))
      ]);
}
  where
    places : (j k : ℕ) → j < k + 1 → (j < k) ⊎ (j ≡ k)
    places j k l = grind arith

    below : owner_of n start < length (parts ++ part ∷ []) → owner_of n start < length parts + 1
    below l = let e = length-append parts (part ∷ []) in omega arith

    within : (j : ℕ) (p : Ring) → slice_get (parts ++ part ∷ []) j ≡ Some p →
        j < length parts + 1
    within j p e =
        let l = place-within (parts ++ part ∷ []) j p e in
        let f = length-append parts (part ∷ []) in omega arith

    last : (length parts ≡ owner_of n start) ⊎ (length parts ≡ owner_of n start → ⊥) →
        IsOwned n (length parts) part
    last (inl s) = record {
      once =
          distinct-permutation (start ∷ []) part (one s)
          (distinct-cons start [] (λ i. i) distinct-none);
      owned = λ v i. elim (permutation-In (start ∷ []) part v (one s) i) [
        | inl e ↦ ap (owner_of n) e ∙ sym s
        | inr k ↦ absurd k
      ];
    }
    last (inr s) = record {
      once = subst AreDistinct (sym (none s)) distinct-none;
      owned = λ v i. absurd (subst (λ list. In v list) (none s) i);
    }

    decide : (a b : ℕ) → (a ≡ b) ⊎ (a ≡ b → ⊥)
    decide a b = grind arith

    at : (j : ℕ) (p : Ring) → slice_get (parts ++ part ∷ []) j ≡ Some p →
        (j < length parts) ⊎ (j ≡ length parts) → IsOwned n j p
    at j p e (inl l) = h.parts_are j p (sym (get-front parts (part ∷ []) j l) ∙ e)
    at j p e (inr s) =
        let there : slice_get (parts ++ part ∷ []) (length parts) ≡ Some p =
        subst (λ k. slice_get (parts ++ part ∷ []) k ≡ Some p) s e in
        let here = get-last parts part in
        let is : part ≡ p = cc in
        subst (λ k. IsOwned n k p) (sym s)
        (subst (IsOwned n (length parts)) is (last (decide (length parts) (owner_of n start))))

-- the same of a list of owners
pub open-owner : (n number : ℕ) (start : List ℕ) (owners more : List Owner) (owner : Owner) →
    length owners ≡ number → more ≡ owners ++ owner ∷ [] → AreOpen n start (kept owners) →
    (number ≡ owner_of n start → IsPermutation (start ∷ []) owner.visited) →
    ((number ≡ owner_of n start → ⊥) → owner.visited ≡ []) →
    (length more ≡ number + 1) × AreOpen n start (kept more)
open-owner n number start owners more owner count e h one none =
    let same : length (kept owners) ≡ number =
    length-map owners (λ (x : Owner). x.visited) ∙ count in
    let long = length-append owners (owner ∷ []) in
    let grown : kept more ≡ kept owners ++ owner.visited ∷ [] =
    ap kept e ∙ map-append (λ (x : Owner). x.visited) owners (owner ∷ []) in (
      ap length e ∙ omega arith,
      subst (AreOpen n start) (sym grown)
          (open-part n start (kept owners) owner.visited h
          (λ s. one (sym same ∙ s))
          (λ s. none (λ t. s (same ∙ t)))),
    )
