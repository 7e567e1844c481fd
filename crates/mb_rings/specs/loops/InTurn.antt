-- The order in which the tables one step away are met.
use Rattle.std.specs.Prelude.{List, [], map, ℕ, ℤ, ◌++◌, ◌+◌, ◌*◌, ◌<◌, ◌≡◌, ◌≤◌, ◌∷◌, ◌⊎◌}
use Rattle.mb_certificate.specs.Valid.{MovesBy}
use Rattle.mb_rings.specs.ShortestPath.{turn}
use Rattle.mb_tables.specs.Counts.{AreCounts}
use Rattle.mb_tables.specs.Lists.{In}

-- a table that is met, and the signed number that makes it
pub record Mark : Type 0 where
  pub step : ℤ
  pub table : List ℕ

-- each element is related to each later one
unfoldable pub EachLater : {X : Type 0} → (X → X → Type 0) → List X → Type 0
EachLater R [] = Unit {0}
EachLater R (x ∷ xs) = ((y : _) → In y xs → R x y) × EachLater R xs

-- one mark's turn is before the other's
abbrev pub IsSooner : Mark → Mark → Type 0
IsSooner m n = turn m.step < turn n.step

-- all turns of so many moves come before this one
abbrev pub turns_of : ℕ → ℕ
turns_of count = 2 * count + 2

-- a table that a signed number makes is met, by this turn
pub record MetBy (marks : List Mark) (step : ℤ) (v : List ℕ) : Type 0 where
  pub mark : Mark
  pub there : In mark marks
  pub is : mark.table ≡ v
  pub soon : turn mark.step ≤ turn step

-- to a list are added the new tables that the signed numbers before a turn make of u, in the order
-- of their first turns
pub record AddsInTurn
    (moves : List (List ℤ)) (u : List ℕ) (end : ℕ) (before old new : List (List ℕ)) : Type 0 where
  pub marks : List Mark
  pub listed : new ≡ old ++ map (λ (m : Mark). m.table) marks
  pub made : (m : Mark) → In m marks → MovesBy moves m.step u m.table
  pub sooner : EachLater IsSooner marks
  pub ended : (m : Mark) → In m marks → turn m.step < end
  pub all : (step : ℤ) (v : List ℕ) → turn step < end → MovesBy moves step u v → AreCounts v →
      In v before ⊎ MetBy marks step v
