-- The elements of lists, and of lists of lists.
use Rattle.std.proofs.Common.{List, Some, [], arith, inl, inr, refl, slice_get, subst, sym, ℕ, ◌+◌, ◌∷◌, ◌≡◌}
use Rattle.std.specs.List.{flat_map}
use Rattle.mb_tables.proofs.ListLaws.{In-cases, In-left, In-right}
use Rattle.mb_tables.specs.Lists.{In}

-- an element stands a place further in a list with one more in front
get-further : {X : Type 0} (x y : X) (xs : List X) (k : ℕ) → slice_get xs k ≡ Some y →
    slice_get (x ∷ xs) (k + 1) ≡ Some y
get-further x y xs k e =
    let step : ℕ.suc k ≡ k + 1 = omega arith in
    subst (λ n. slice_get (x ∷ xs) n ≡ Some y) step e

-- what stands in a list of lists stands in one of them
pub In-flat : {X Y : Type 0} (f : X → List Y) (y : Y) (xs : List X) → In y (flat_map f xs) →
    (i : ℕ) × (x : X) × (slice_get xs i ≡ Some x) × In y (f x)
unfolding In
In-flat f y [] h = absurd h
In-flat f y (x ∷ xs) h =
    elim (In-cases y (f x) (flat_map f xs) h) [
      | inl i ↦ (0, x, refl, i)
      | inr i ↦ let r = In-flat f y xs i in (r.0 + 1, r.1, get-further x r.1 xs r.0 r.2, r.3)
    ]

-- and the other way round
pub flat-In : {X Y : Type 0} (f : X → List Y) (y : Y) (xs : List X) (i : ℕ) (x : X) →
    slice_get xs i ≡ Some x → In y (f x) → In y (flat_map f xs)
flat-In f y [] i x e j = cc
flat-In f y (z ∷ xs) ℕ.zero x e j =
    let same : z ≡ x = cc in
    In-left y (f z) (flat_map f xs) (subst (λ t. In y (f t)) (sym same) j)
flat-In f y (z ∷ xs) (ℕ.suc i) x e j = In-right y (f z) (flat_map f xs) (flat-In f y xs i x e j)
