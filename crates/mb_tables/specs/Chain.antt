-- Chains of steps: connectedness in the fiber graph.
use Rattle.std.specs.Prelude.{List, [], ℕ, ℤ, ◌∷◌, ◌≡◌}
use Rattle.mb_tables.specs.Step.{OneApart}

-- the table u and then the listed ones, of which v is the last, each one step from the one
-- before it; all of them are tables, so nothing on the way is below zero
unfoldable pub Chain : List (List ℤ) → List ℕ → List (List ℕ) → List ℕ → Type 0
Chain moves u [] v = u ≡ v
Chain moves u (next ∷ tables) v = OneApart moves u next × Chain moves next tables v

-- some chain leads from u to v (Diaconis and Sturmfels 1998)
abbrev pub Joined : List (List ℤ) → List ℕ → List ℕ → Type 0
Joined moves u v = (tables : List (List ℕ)) × Chain moves u tables v
