-- Steps of the fiber graph: tables that one move takes into each other. Beside each relation stands
-- its test; a law says that the test decides (`StepsAreDecided`).
use Rattle.std.specs.List.{list_any}
use Rattle.std.specs.Ordering.{int_eq}
use Rattle.std.specs.Prelude.{Bool, List, Some, [], false, pos, slice_get, true, ℕ, ℤ, ◌&&◌, ◌+ℤ◌, ◌||◌, ◌∷◌, ◌≡◌, ◌⊎◌}
use Rattle.mb_tables.specs.Lists.{In}
use Rattle.mb_tables.specs.declared.sign.Sign.{Sign}
use Rattle.mb_tables.specs.declared.sign.Sign.TheVariants.{Minus, Plus}

-- the first table and the move make the second
unfoldable pub Adds : List ℕ → List ℤ → List ℕ → Type 0
Adds [] [] [] = Unit {0}
Adds (x ∷ u) (z ∷ move) (y ∷ v) = (pos y ≡ (pos x +ℤ z)) × Adds u move v
Adds _ _ _ = ⊥

-- whether they do
unfoldable pub adds : List ℕ → List ℤ → List ℕ → Bool
adds [] [] [] = true
adds (x ∷ u) (z ∷ move) (y ∷ v) = int_eq (pos y) (pos x +ℤ z) && adds u move v
adds _ _ _ = false

-- the second table is the first with the move added, or with it subtracted: then the
-- second and the move make the first
abbrev pub Moved : Sign → List ℕ → List ℤ → List ℕ → Type 0
Moved Plus u move v = Adds u move v
Moved Minus u move v = Adds v move u

-- one listed move, added or subtracted, makes the second table of the first
abbrev pub OneApart : List (List ℤ) → List ℕ → List ℕ → Type 0
OneApart moves u v =
    (k : ℕ) × (move : List ℤ) × (slice_get moves k ≡ Some move) × (Adds u move v ⊎ Adds v move u)

-- whether one does
abbrev pub is_step : List (List ℤ) → List ℕ → List ℕ → Bool
is_step moves u v = list_any (λ move. adds u move v || adds v move u) moves

-- the table v is one step from a table of the list
abbrev pub IsNear : List (List ℤ) → List (List ℕ) → List ℕ → Type 0
IsNear moves list v = (u : List ℕ) × In u list × OneApart moves u v

-- whether it is
abbrev pub is_near : List (List ℤ) → List (List ℕ) → List ℕ → Bool
is_near moves list v = list_any (λ u. is_step moves u v) list
