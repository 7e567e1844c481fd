-- Faults of the registry: those that a decision answers, and those that the outside causes.
use Rattle.std.specs.Prelude.{Bool, Err, None, Ok, Option, Result, Some, false, true, ℕ, ◌≡◌}
use Rattle.mb_outside.specs.Causes.{HasCause}
use Rattle.mb_outside.specs.Rows.{Rows}
use Rattle.mb_outside.specs.Told.{WhereTold}
use Rattle.mb_outside.specs.declared.keeper.KeepFault.{KeepFault}
use Rattle.mb_outside.specs.declared.keeper.KeepFault.TheVariants as keeping
use Rattle.mb_registry.specs.declared.fault.RegistryFault.{RegistryFault}
use Rattle.mb_registry.specs.declared.fault.RegistryFault.TheVariants.{BadRecord, Conflict, InUse, Keeper, OutOfMemory, Unknown}
use Rattle.mb_tables.specs.Answers.{Gives}

-- what a decision over rows answers: a value, or why there is none
abbrev pub Answer : Type 0 → Type 0
Answer A = Result A RegistryFault

-- the fault that a decision can answer; a failing keeper and want of memory are none
abbrev pub fault_cause : RegistryFault → Option RegistryFault
fault_cause (Unknown kind name) = Some (Unknown kind name)
fault_cause (InUse by) = Some (InUse by)
fault_cause (Conflict kept) = Some (Conflict kept)
fault_cause (BadRecord kind name) = Some (BadRecord kind name)
fault_cause Keeper = None
fault_cause OutOfMemory = None

-- the fault of a keeper as one of the registry
abbrev pub keeper_fault : KeepFault → RegistryFault
keeper_fault keeping.Failed = Keeper
keeper_fault keeping.OutOfMemory = OutOfMemory

-- whether a fault says that the keeper failed
abbrev pub is_keeper : RegistryFault → Bool
is_keeper (Unknown kind name) = false
is_keeper (InUse by) = false
is_keeper (Conflict kept) = false
is_keeper (BadRecord kind name) = false
is_keeper Keeper = true
is_keeper OutOfMemory = false

-- whether an answer says so
abbrev pub blames_keeper : {A : Type 0} → Answer A → Bool
blames_keeper (Ok x) = false
blames_keeper (Err fault) = is_keeper fault

-- a call that looks and changes no row: its answer, seen by `view`, is what is decided over the
-- rows, and the keeper is blamed exactly where its count rose
pub record Looks {A B : Type 0} (view : A → B) (before after : Option Rows)
    (failed_before failed_after : ℕ) (answer : Answer A) (decide : Rows → Answer B) : Type 0 where
  pub decided : WhereTold before after (λ rows _. Gives fault_cause view answer (decide rows))
  pub same : WhereTold before after (λ b a. a ≡ b)
  pub cause : HasCause failed_before failed_after (blames_keeper answer)

-- the rows after an answer: those of the step, or after a fault as before
abbrev pub stepped : {A : Type 0} → (A → Rows → Rows) → Answer A → Rows → Rows
stepped step (Ok x) rows = step x rows
stepped step (Err fault) rows = rows

-- a call that may change rows: its answer is what is decided over them, they are then those of the
-- step, and as before after a refusal, and the keeper is blamed exactly where its count rose
pub record Steps {A : Type 0} (before after : Option Rows) (failed_before failed_after : ℕ)
    (answer : Answer A) (decide : Rows → Answer A) (step : A → Rows → Rows) : Type 0 where
  pub decided : WhereTold before after (λ rows _. Gives fault_cause (λ x. x) answer (decide rows))
  pub rows : WhereTold before after (λ b a. a ≡ stepped step answer b)
  pub cause : HasCause failed_before failed_after (blames_keeper answer)
