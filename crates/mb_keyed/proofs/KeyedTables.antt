-- Tables read back from their keys.
use Rattle.std.proofs.Common.{List, [], inl, inr, length, map, refl, subst, sym, ℕ, ◌∙◌, ◌∷◌, ◌≡◌, ◌↔◌, ⊎_elim}
use Rattle.std.proofs.lemmas.List.Sorted.{IsPermutation-sym, length_permutation}
use Rattle.std.proofs.lemmas.List.{length-map}
use Rattle.std.specs.Cmp.Lexicographic.{slice_cmp}
use Rattle.std.specs.List.Sorted.{IsPermutation, IsSorted}
use Rattle.std.specs.Ordering.{nat_cmp}
use Rattle.mb_claims.specs.Lists.{AreDistinctKeys}
use Rattle.mb_keyed.proofs.KeyOrders.{In-permuted, distinct-permuted}
use Rattle.mb_keyed.specs.loops.Keyed.{AreFound, FiberAt, FindsKeyed, IsOfFiber, digits_in}
use Rattle.mb_matrix.proofs.Suits.{same_key}
use Rattle.mb_matrix.specs.Ascending.{Ascends}
use Rattle.mb_matrix.specs.Key.{key_of}
use Rattle.mb_matrix.specs.Matrix.{IsDesign}
use Rattle.mb_matrix.specs.declared.digit.Digit.{Digit}
use Rattle.mb_rings.proofs.AscendingTables.{ascends-sorted}
use Rattle.mb_rings.proofs.DistinctTables.{distinct-cons, distinct-none}
use Rattle.mb_rings.specs.Claimed.{IsKeyOf}
use Rattle.mb_rings.specs.loops.Found.{AreDistinct}
use Rattle.mb_tables.proofs.ListLaws.{In-map, In-map_range}
use Rattle.mb_tables.specs.Lists.{In}

-- tables of distinct keys are distinct
pub distinct-from_keys : (f : List ℕ → ℕ) (tables : List (List ℕ)) →
    AreDistinctKeys (map f tables) → AreDistinct tables
distinct-from_keys f [] d = distinct-none
distinct-from_keys f (u ∷ tables) d =
    distinct-cons u tables (λ i. d.0 (In-map f u tables i)) (distinct-from_keys f tables d.1)

module _ (digits : List Digit) (found : List ℕ) (tables : List (List ℕ))
    (p : IsPermutation found (map (key_of digits) tables)) where
  -- the tables have these keys
  pub keys-read : (key : ℕ) → In key found ↔ IsKeyOf digits (λ v. In v tables) key
  keys-read key =
      let made : List ℕ = map (key_of digits) tables in
      let back = IsPermutation-sym found made p in (
        (λ i. In-map_range (key_of digits) key tables (In-permuted key found made p i)),
        (λ h. In-permuted key made found back
            (subst (λ n. In n made) (sym h.2) (In-map (key_of digits) h.0 tables h.1))),
      )

  -- where they are sorted, they ascend
  pub ascends-read : AreDistinctKeys found → IsSorted (slice_cmp nat_cmp) tables → Ascends tables
  ascends-read d s =
      ascends-sorted tables s
      (distinct-from_keys (key_of digits) tables
      (distinct-permuted found (map (key_of digits) tables) p d))

  -- as many as the keys
  pub count-read : length tables ≡ length found
  count-read =
      sym (length-map tables (key_of digits))
      ∙ length_permutation found (map (key_of digits) tables) p

-- what is found of keys is found of tables
pub finds-keyed : (fiber : FiberAt) → IsDesign fiber.matrix → (IsSought : List ℕ → Type 0) →
    ((v : List ℕ) → IsSought v → IsOfFiber fiber v) →
    (before after found : List ℕ) (next : List (List ℕ)) →
    AreFound (IsKeyOf (digits_in fiber) IsSought) before after found → AreDistinctKeys after →
    ((key : ℕ) → IsKeyOf (digits_in fiber) IsSought key → In key after) →
    ((key : ℕ) → In key found ↔ IsKeyOf (digits_in fiber) (λ v. In v next) key) →
    ((v : List ℕ) → In v next → IsOfFiber fiber v) → Ascends next →
    FindsKeyed (digits_in fiber) IsSought before after next
finds-keyed fiber sound IsSought there before after found next h once told keys within up =
    let digits = digits_in fiber in
    record {
      sought = λ v i.
          let s = h.fresh.sought (key_of digits v) ((keys (key_of digits v)).1 (v, i, refl)) in
          let one = within v i in
          let other = there s.0 s.1 in
          subst IsSought
          (sym (same_key fiber.matrix sound fiber.margins v s.0 one.cells other.cells one.same
          other.same s.2)) s.1;
      new = λ v i j. h.fresh.new (key_of digits v) ((keys (key_of digits v)).1 (v, i, refl)) j;
      ascends = up;
      once = once;
      keys = λ key. (
        (λ i. ⊎_elim (λ k. inl k) (λ f. inr ((keys key).0 f)) ((h.all key).0 i)),
        (λ i. (h.all key).1 (⊎_elim (λ k. inl k) (λ f. inr ((keys key).1 f)) i)),
      );
      all = λ v s. told (key_of digits v) (v, s, refl);
    }
