-- The laws of steps and of joined tables.
use Rattle.std.specs.Prelude.{List, length, true, ℕ, ℤ, ◌↔◌, ◌≡◌, ◌≤◌}
use Rattle.mb_tables.specs.Chain.{Joined}
use Rattle.mb_tables.specs.Lists.{In, stands_in}
use Rattle.mb_tables.specs.Step.{Adds, IsNear, OneApart, adds, is_near, is_step}
use Rattle.mb_tables.specs.Vectors.{plus}

-- each test passes exactly where its relation holds
pub record StepsAreDecided : Type 0 where
  pub made : (u : List ℕ) (move : List ℤ) (v : List ℕ) → (adds u move v ≡ true) ↔ Adds u move v
  pub step : (moves : List (List ℤ)) (u v : List ℕ) →
      (is_step moves u v ≡ true) ↔ OneApart moves u v
  pub near : (moves : List (List ℤ)) (list : List (List ℕ)) (v : List ℕ) →
      (is_near moves list v ≡ true) ↔ IsNear moves list v
  pub listed : (list : List (List ℕ)) (v : List ℕ) → (stands_in list v ≡ true) ↔ In v list

-- what joins is joined back, and chains go on from each other
pub record JoiningIsAnEquivalence : Type 0 where
  pub itself : (moves : List (List ℤ)) (u : List ℕ) → Joined moves u u
  pub back : (moves : List (List ℤ)) (u v : List ℕ) → Joined moves u v → Joined moves v u
  pub on : (moves : List (List ℤ)) (u v w : List ℕ) →
      Joined moves u v → Joined moves v w → Joined moves u w

-- joined tables stay joined when a table no longer than they are is added to both
abbrev pub JoinedAdded : Type 0
JoinedAdded =
    (moves : List (List ℤ)) (u v more : List ℕ) → length more ≤ length u →
    Joined moves u v → Joined moves (plus u more) (plus v more)
