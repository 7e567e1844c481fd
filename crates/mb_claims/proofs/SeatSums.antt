-- Lists of views: what stands at a seat, and sums over all of them.
use Rattle.std.proofs.Common.{List, [], ap, arith, get_or, inl, inr, length, refl, set, suc, sym, zero, ℕ, ◌++◌, ◌+◌, ◌<◌, ◌∙◌, ◌∷◌, ◌≡◌, ◌≢◌, ◌≤◌, ◌⊎◌}
use Rattle.std.proofs.lemmas.List.Sums.{get_or-le-sum_by, sum_by-cons, sum_by-set}
use Rattle.std.specs.List.{sum_by}
use lib.ListN.{get_elem?}
use mathlib.Core.Option.{some, some-injective, some-ne-none}

module _ {X : Type 0} where
  -- an element that is looked up is within the list, and is the one read there
  pub at_is : (xs : List X) (i : ℕ) (a d : X) → get_elem? xs i ≡ some a →
      (i < length xs) × (get_or xs i d ≡ a)
  at_is [] i a d e = absurd (some-ne-none a (sym e))
  at_is (x ∷ xs) zero a d e = (omega arith, some-injective x a e)
  at_is (x ∷ xs) (suc i) a d e = let h = at_is xs i a d e in (omega arith, h.1)

  -- a sum after a write
  pub sum_by-put : (f : X → ℕ) (xs : List X) (i : ℕ) (a b : X) → get_elem? xs i ≡ some a →
      sum_by f (set xs i b) + f a ≡ sum_by f xs + f b
  sum_by-put f xs i a b e =
      let h = at_is xs i a a e in
      ap (λ c. sum_by f (set xs i b) + f c) (sym h.1) ∙ sum_by-set f xs i b a h.0

  -- an element of a longer list stood in the list, or is the last
  pub at_end : (xs : List X) (a b : X) (i : ℕ) → get_elem? (xs ++ a ∷ []) i ≡ some b →
      ((i < length xs) × (get_elem? xs i ≡ some b)) ⊎ ((i ≡ length xs) × (a ≡ b))
  at_end [] a b zero e = inr (refl, some-injective a b e)
  at_end [] a b (suc i) e = absurd (some-ne-none b (sym e))
  at_end (x ∷ xs) a b zero e = inl (omega arith, e)
  at_end (x ∷ xs) a b (suc i) e =
      elim (at_end xs a b i e) [
        | inl h ↦ inl (omega (arith, h.0), h.1)
        | inr h ↦ inr (ap suc h.0, h.1)
      ]

  -- a sum over elements that add nothing
  pub sum_by-none : (f : X → ℕ) (xs : List X) →
      ((i : ℕ) (a : X) → get_elem? xs i ≡ some a → f a ≡ 0) → sum_by f xs ≡ 0
  sum_by-none f [] h = refl
  sum_by-none f (x ∷ xs) h =
      let more = sum_by-none f xs (λ i a e. h (suc i) a e) in
      omega (arith, sum_by-cons f x xs, h zero x refl, more)

  -- a sum to which one element alone adds
  pub sum_by-one : (f : X → ℕ) (xs : List X) (i : ℕ) (a : X) → get_elem? xs i ≡ some a →
      ((j : ℕ) (b : X) → get_elem? xs j ≡ some b → j ≢ i → f b ≡ 0) → sum_by f xs ≡ f a
  sum_by-one f [] i a e h = absurd (some-ne-none a (sym e))
  sum_by-one f (x ∷ xs) zero a e h =
      let rest = sum_by-none f xs (λ j b k. h (suc j) b k (λ l. omega arith)) in
      let same : f x ≡ f a = ap f (some-injective x a e) in
      omega (arith, sum_by-cons f x xs, rest, same)
  sum_by-one f (x ∷ xs) (suc i) a e h =
      let rest = sum_by-one f xs i a e (λ j b k l. h (suc j) b k (λ m. l (omega arith))) in
      let none : f x ≡ 0 = h zero x refl (λ l. omega arith) in
      omega (arith, sum_by-cons f x xs, rest, none)

  -- an element adds no more than all together
  pub at_le_sum : (f : X → ℕ) (xs : List X) (i : ℕ) (a : X) → get_elem? xs i ≡ some a →
      f a ≤ sum_by f xs
  at_le_sum f xs i a e =
      let h = at_is xs i a a e in
      let same : f (get_or xs i a) ≡ f a = ap f h.1 in
      omega (arith, get_or-le-sum_by f xs i a h.0, same)
