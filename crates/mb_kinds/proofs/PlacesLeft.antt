-- Places of a list that are tried one by one.
use Rattle.std.proofs.Common.{Bool, List, Some, ap, drop, false, true, ℕ, ◌&&◌, ◌+◌, ◌∙◌, ◌∷◌, ◌≡◌, ◌||◌}
use Rattle.std.proofs.lemmas.List.{drop_more}
use Rattle.std.proofs.lemmas.Option.{get_or_from_slice_get, slice_get_within}
use Rattle.std.specs.List.{list_all, list_any, slice_get}

-- what is left from a place on
pub left_from : {X : Type 0} (xs : List X) (k : ℕ) (x : X) → slice_get xs k ≡ Some x
    → drop k xs ≡ x ∷ drop (k + 1) xs
left_from xs k x is =
    drop_more xs k x (slice_get_within xs k x is)
    ∙ ap (λ y. y ∷ drop (k + 1) xs) (get_or_from_slice_get xs k x x is)

module _ {X : Type 0} (test : X → Bool) where
  -- the one at this place passes
  pub any_here : (xs : List X) (k : ℕ) (x : X) → slice_get xs k ≡ Some x → test x ≡ true
      → list_any test xs ≡ list_any test (drop k xs) → list_any test xs ≡ true
  any_here xs k x is passes before =
      before ∙ ap (list_any test) (left_from xs k x is)
      ∙ ap (λ b. b || list_any test (drop (k + 1) xs)) passes

  -- it doesn't
  pub any_later : (xs : List X) (k : ℕ) (x : X) → slice_get xs k ≡ Some x → test x ≡ false
      → list_any test xs ≡ list_any test (drop k xs)
      → list_any test xs ≡ list_any test (drop (k + 1) xs)
  any_later xs k x is fails before =
      before ∙ ap (list_any test) (left_from xs k x is)
      ∙ ap (λ b. b || list_any test (drop (k + 1) xs)) fails

  -- the one at this place fails
  pub all_not_here : (xs : List X) (k : ℕ) (x : X) → slice_get xs k ≡ Some x → test x ≡ false
      → list_all test xs ≡ list_all test (drop k xs) → list_all test xs ≡ false
  all_not_here xs k x is fails before =
      before ∙ ap (list_all test) (left_from xs k x is)
      ∙ ap (λ b. b && list_all test (drop (k + 1) xs)) fails

  -- it doesn't
  pub all_later : (xs : List X) (k : ℕ) (x : X) → slice_get xs k ≡ Some x → test x ≡ true
      → list_all test xs ≡ list_all test (drop k xs)
      → list_all test xs ≡ list_all test (drop (k + 1) xs)
  all_later xs k x is passes before =
      before ∙ ap (list_all test) (left_from xs k x is)
      ∙ ap (λ b. b && list_all test (drop (k + 1) xs)) passes
