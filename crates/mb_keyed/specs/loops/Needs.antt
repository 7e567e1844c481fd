-- What a step needs of a table: counts from which it takes something away.
use Rattle.std.specs.Prelude.{All, Bool, List, Some, [], cond, drop, int_lt, length, nat_abs, pos, slice_get, slice_index_or, take, ℕ, ℤ, ◌+◌, ◌-◌, ◌<◌, ◌≡◌, ◌≤◌, ◌∷◌}
use Rattle.mb_keyed.specs.declared.needs.Need.{Need}
use Rattle.mb_keyed.specs.declared.step_list.StepList.{StepList}
use Rattle.mb_keyed.specs.declared.step_list.StepOf.{StepOf}
use Rattle.mb_matrix.specs.Key.{IsDelta, key_of}
use Rattle.mb_matrix.specs.declared.digit.Digit.{Digit}
use Rattle.mb_tables.specs.Step.{Moved}
use Rattle.mb_tables.specs.declared.sign.Sign.{Sign}
use Rattle.mb_tables.specs.declared.sign.Sign.TheVariants.{Minus, Plus}

-- whether a step takes something away at a cell with this entry
abbrev pub takes : Sign → ℤ → Bool
takes Plus z = int_lt z (pos 0)
takes Minus z = int_lt (pos 0) z

-- what a step needs, where the first entry is that of cell k
unfoldable pub needs_of : Sign → ℕ → List ℤ → List Need
needs_of sign k [] = []
needs_of sign k (z ∷ entries) =
    cond (takes sign z) (record { cell = k; count = nat_abs z } ∷ needs_of sign (k + 1) entries)
    (needs_of sign (k + 1) entries)

-- a table has these counts, or more
abbrev pub Has : List ℕ → List Need → Type 0
Has counts needs = All (λ need. need.count ≤ slice_index_or counts need.cell 0) needs

-- a step can be taken exactly from a table that has what it needs
pub record AreNeeds (cells : ℕ) (sign : Sign) (move : List ℤ) (needs : List Need) : Type 0 where
  pub within : All (λ need. need.cell < cells) needs
  pub enough : (u : List ℕ) → length u ≡ cells → Has u needs →
      (v : List ℕ) × Moved sign u move v
  pub wanted : (u v : List ℕ) → length u ≡ cells → Moved sign u move v → Has u needs

-- the needs from one place on and before another
abbrev pub needs_between : List Need → ℕ → ℕ → List Need
needs_between needs from to = take (to - from) (drop from needs)

-- what a move adds to a key, and where its needs stand: first those of its being added
pub record IsStepOf
    (digits : List Digit) (cells : ℕ) (move : List ℤ) (step : StepOf) (needs : List Need)
    : Type 0 where
  pub delta : IsDelta (key_of digits) digits move step.delta
  pub added : step.first ≤ step.middle
  pub taken : step.middle ≤ step.end
  pub within : step.end ≤ length needs
  pub plus : AreNeeds cells Plus move (needs_between needs step.first step.middle)
  pub minus : AreNeeds cells Minus move (needs_between needs step.middle step.end)

-- the steps of all moves
pub record AreSteps
    (digits : List Digit) (cells : ℕ) (moves : List (List ℤ)) (steps : StepList) : Type 0 where
  pub count : length steps.list.items ≡ length moves
  pub each : (k : ℕ) (move : List ℤ) (step : StepOf) → slice_get moves k ≡ Some move →
      slice_get steps.list.items k ≡ Some step →
      IsStepOf digits cells move step steps.needs.items
