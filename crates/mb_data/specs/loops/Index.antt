-- The place of each name in a list.
use Rattle.std.specs.Prelude.{List, Option, Some, slice_get, ℕ, ◌≡◌}

-- a search for a name gives the one place where it stands
pub record IsIndex (names : List (List ℕ)) (find : List ℕ → Option ℕ) : Type 0 where
  pub there : (name : List ℕ) (place : ℕ) → find name ≡ Some place →
      slice_get names place ≡ Some name
  pub found : (name : List ℕ) (place : ℕ) → slice_get names place ≡ Some name →
      find name ≡ Some place
