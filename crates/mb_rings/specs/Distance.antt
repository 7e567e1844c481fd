-- Distance in the fiber graph.
use Rattle.std.specs.Prelude.{List, length, ℕ, ℤ, ◌≡◌, ◌≤◌}
use Rattle.mb_tables.specs.Chain.{Chain}

-- some chain of n steps leads from u to v
abbrev pub IsInSteps : List (List ℤ) → List ℕ → ℕ → List ℕ → Type 0
IsInSteps moves u n v = (tables : List (List ℕ)) × (length tables ≡ n) × Chain moves u tables v

-- v is n steps from u: a chain of n steps leads to it, and none of fewer
pub record IsAtDistance (moves : List (List ℤ)) (u : List ℕ) (n : ℕ) (v : List ℕ) : Type 0 where
  pub there : IsInSteps moves u n v
  pub least : (m : ℕ) → IsInSteps moves u m v → n ≤ m
