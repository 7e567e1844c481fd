-- What stands in a list.
use Rattle.std.specs.Cmp.Lexicographic.{pointwise}
use Rattle.std.specs.List.{list_any}
use Rattle.std.specs.Prelude.{Bool, List, [], nat_eq, ℕ, ◌∷◌, ◌≡◌, ◌⊎◌}

-- the element is one of the list's
unfoldable pub In : {X : Type 0} → X → List X → Type 0
In u [] = ⊥
In u (v ∷ list) = (u ≡ v) ⊎ In u list

-- whether a table is one of the list's
abbrev pub stands_in : List (List ℕ) → List ℕ → Bool
stands_in list v = list_any (pointwise nat_eq v) list
