-- Orderly rows, and lists of steps over them.
use Rattle.std.specs.FinMap.{get}
use Rattle.std.specs.Prelude.{IsSome, List, None, Ok, Option, Some, [], ℕ, ◌∷◌, ◌≡◌}
use Rattle.mb_outside.specs.Rows.{Key, Rows}
use Rattle.mb_registry.specs.Adding.{added_of, rows_added}
use Rattle.mb_registry.specs.Bodies.{HasFewTables, IsRecord, body_of, record_of}
use Rattle.mb_registry.specs.Faults.{Answer}
use Rattle.mb_registry.specs.Kinds.{key_of, kind_number}
use Rattle.mb_registry.specs.Records.{RecordValue, kind_of, reference_of}
use Rattle.mb_registry.specs.Removing.{removed_of, rows_removed}
use Rattle.mb_registry.specs.declared.adding.Added.{Added}
use Rattle.mb_registry.specs.declared.kinds.Kind.{Kind}
use Rattle.mb_tables.specs.Answers.{◌>>=◌}
use Rattle.mb_text.specs.Name.{IsName}

-- the record that is referred to is there
abbrev pub IsThere : Option (Kind × List ℕ) → Rows → Type 0
IsThere None rows = Unit {0}
IsThere (Some reference) rows = IsSome (get rows (key_of reference.0 reference.1))

-- a row has a kind and a name, its body is a record of this kind, and what it refers to is there
pub record IsOrderlyRow (rows : Rows) (key : Key) (body : List ℕ) : Type 0 where
  pub kind : Kind
  pub numbered : key.0 ≡ kind_number kind
  pub named : IsName key.1
  pub entry : RecordValue
  pub says : record_of kind body ≡ Some entry
  pub referred : IsThere (reference_of entry) rows

-- rows are orderly where each row is
abbrev pub AreOrderly : Rows → Type 0
AreOrderly rows =
    (key : Key) (body : List ℕ) → get rows key ≡ Some body → IsOrderlyRow rows key body

-- a step: a record is added under a name, or the record of a kind and a name is removed
pub data Step : Type 0 where
  Adds : (name : List ℕ) → RecordValue → Step
  Removes : Kind → (name : List ℕ) → Step

-- what is added has a name, and is a record that has a body
abbrev pub IsStep : Step → Type 0
IsStep (Adds name entry) = IsName name × (IsRecord entry × HasFewTables entry)
IsStep (Removes kind name) = Unit {0}

-- what adding a record under a name answers
abbrev pub record_added : List ℕ → RecordValue → Rows → Answer Added
record_added name entry rows =
    added_of (kind_of entry) name (reference_of entry) (body_of entry) rows

-- the rows after a step that is accepted
abbrev pub after_step : Step → Rows → Answer Rows
after_step (Adds name entry) rows =
    record_added name entry rows >>= λ added.
    Ok (rows_added (kind_of entry) name (body_of entry) added rows)
after_step (Removes kind name) rows =
    removed_of kind name rows >>= λ done. Ok (rows_removed kind name done rows)

-- the rows after steps that are accepted one after the other
unfoldable pub after_steps : List Step → Rows → Answer Rows
after_steps [] rows = Ok rows
after_steps (step ∷ steps) rows =
    after_step step rows >>= λ later. after_steps steps later
