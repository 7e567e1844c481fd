-- The levels of a factor by name, in the order of their first appearance.
use Rattle.std.specs.List.{list_any}
use Rattle.std.specs.Prelude.{List, Some, [], if◌then◌else◌, slice_get, ℕ, ◌++◌, ◌∷◌, ◌≡◌}
use Rattle.std.specs.Str.{bytes_eq}

-- the names after a further one, which is added where it isn't there yet
abbrev pub with_name : List (List ℕ) → List ℕ → List (List ℕ)
with_name names name = if list_any (bytes_eq name) names then names else names ++ name ∷ []

-- no name stands at two places
abbrev pub AreApart : List (List ℕ) → Type 0
AreApart names =
    (i j : ℕ) (name : List ℕ) → slice_get names i ≡ Some name → slice_get names j ≡ Some name →
    i ≡ j
