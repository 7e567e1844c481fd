-- What a command makes of what the registry decides.
use Rattle.std.specs.Prelude.{List, Option, Ok, [], codes, ℕ, ◌++◌, ◌∷◌}
use Rattle.mb_desk.specs.Decision.{Decided, or_refusal}
use Rattle.mb_desk.specs.declared.plans.Change.{Change}
use Rattle.mb_desk.specs.declared.plans.Change.TheVariants.{Adds, Nothing}
use Rattle.mb_desk.specs.declared.plans.Plan.{Plan}
use Rattle.mb_desk.specs.declared.plans.Stop.{Stop}
use Rattle.mb_desk.specs.declared.plans.Stop.TheVariants as stops
use Rattle.mb_desk.specs.declared.refusals.Refusal.{Refusal}
use Rattle.mb_desk.specs.declared.refusals.Refusal.TheVariants as refusals
use Rattle.mb_outside.specs.Rows.{Rows}
use Rattle.mb_registry.specs.Adding.{added_of}
use Rattle.mb_registry.specs.Faults.{Answer}
use Rattle.mb_registry.specs.Kinds.{kind_word}
use Rattle.mb_registry.specs.declared.adding.Added.{Added}
use Rattle.mb_registry.specs.declared.adding.Added.TheVariants.{Stored, Unchanged}
use Rattle.mb_registry.specs.declared.fault.RegistryFault.{RegistryFault}
use Rattle.mb_registry.specs.declared.fault.RegistryFault.TheVariants as faults
use Rattle.mb_registry.specs.declared.kinds.Kind.{Kind}
use Rattle.mb_tables.specs.Answers.{◌>>=◌}

-- the refusal for a fault of a look-up or a list: a record isn't there, or a row is no record; no
-- look-up and no list decides another fault
abbrev pub look_refusal : RegistryFault → Refusal
look_refusal (faults.Unknown kind name) = refusals.Unknown kind name
look_refusal (faults.BadRecord kind name) = refusals.BadRecord kind name
look_refusal (faults.InUse by) = refusals.TooWide
look_refusal (faults.Conflict kept) = refusals.TooWide
look_refusal faults.Keeper = refusals.TooWide
look_refusal faults.OutOfMemory = refusals.TooWide

-- the refusal of adding or removing the record of this kind and name
abbrev pub change_refusal : Kind → List ℕ → RegistryFault → Refusal
change_refusal kind name (faults.InUse by) = refusals.InUse kind name by
change_refusal kind name (faults.Conflict kept) = refusals.Conflict kind name
change_refusal kind name (faults.Unknown missing text) = refusals.Unknown missing text
change_refusal kind name (faults.BadRecord bad text) = refusals.BadRecord bad text
change_refusal kind name faults.Keeper = refusals.TooWide
change_refusal kind name faults.OutOfMemory = refusals.TooWide

-- why the work stops for a fault of the registry, with its refusal
abbrev pub registry_stop : (RegistryFault → Refusal) → RegistryFault → Stop
registry_stop refusal faults.Keeper = stops.Outside
registry_stop refusal faults.OutOfMemory = stops.Memory
registry_stop refusal (faults.Unknown kind name) =
    stops.Refused (refusal (faults.Unknown kind name))
registry_stop refusal (faults.InUse by) = stops.Refused (refusal (faults.InUse by))
registry_stop refusal (faults.Conflict kept) = stops.Refused (refusal (faults.Conflict kept))
registry_stop refusal (faults.BadRecord kind name) =
    stops.Refused (refusal (faults.BadRecord kind name))

-- what a look-up or a list decides
abbrev pub found : {A : Type 0} → (Rows → Answer A) → Rows → Decided A
found look rows = or_refusal look_refusal (look rows)

-- the word of what became of a record
abbrev pub added_word : Added → List ℕ
added_word Stored = codes "stored"
added_word Unchanged = codes "unchanged"

-- the line of what became of the record of this kind and name
abbrev pub added_line : Added → Kind → List ℕ → List ℕ
added_line added kind name =
    added_word added ++ (32 ∷ kind_word kind ++ (32 ∷ name ++ (10 ∷ [])))

-- the change that adds a record, where it isn't there
abbrev pub added_change : Added → Kind → List ℕ → List ℕ → Change
added_change Stored kind name body = Adds kind name body
added_change Unchanged kind name body = Nothing

-- the plan of what becomes of a record: its line is printed, and then these
abbrev pub added_plan : Kind → List ℕ → List ℕ → List ℕ → Added → Plan
added_plan kind name body lines added = record {
  answer = added_line added kind name ++ lines;
  change = added_change added kind name body;
}

-- what becomes of a record of this kind, name, reference and body that is added
unfoldable pub added_to : Kind → List ℕ → Option (Kind × List ℕ) → List ℕ → Rows → Decided Added
added_to kind name reference body rows =
    or_refusal (change_refusal kind name) (added_of kind name reference body rows)

-- the plan that keeps a record of this kind, name, reference and body
abbrev pub kept_plan : Kind → List ℕ → Option (Kind × List ℕ) → List ℕ → List ℕ → Rows →
    Decided Plan
kept_plan kind name reference body lines rows =
    added_to kind name reference body rows >>= λ added.
    Ok (added_plan kind name body lines added)
