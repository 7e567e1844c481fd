-- Removing a record.
use Rattle.std.specs.FinMap.{get, remove}
use Rattle.std.specs.Option.{ok_or, option_and_then}
use Rattle.std.specs.Prelude.{Bool, Err, List, None, Ok, Option, Some, [], false, if◌then◌else◌, ℕ, ◌∷◌}
use Rattle.std.specs.Str.{bytes_eq}
use Rattle.mb_outside.specs.Rows.{Rows, names_of}
use Rattle.mb_registry.specs.Bodies.{record_of}
use Rattle.mb_registry.specs.Faults.{Answer}
use Rattle.mb_registry.specs.Kinds.{key_of, kind_number}
use Rattle.mb_registry.specs.Looking.{kept}
use Rattle.mb_registry.specs.Records.{RecordValue, reference_of, referring_kind}
use Rattle.mb_registry.specs.declared.fault.RegistryFault.TheVariants.{BadRecord, InUse}
use Rattle.mb_registry.specs.declared.kinds.Kind.{Kind}
use Rattle.mb_tables.specs.Answers.{◌>>=◌}
use Rattle.mb_text.specs.Name.{is_name}

-- whether a reference has this name
abbrev pub has_name : List ℕ → Option (Kind × List ℕ) → Bool
has_name name None = false
has_name name (Some reference) = bytes_eq reference.1 name

-- the record of a listed name, which has to be a name
abbrev pub listed_record : Kind → List ℕ → Rows → Answer RecordValue
listed_record kind name rows =
    if is_name name
    then ok_or (option_and_then (record_of kind) (get rows (key_of kind name)))
    (BadRecord kind name)
    else Err (BadRecord kind name)

-- whether the record of a listed name refers to the record of this name
abbrev pub refers_to : List ℕ → Kind → List ℕ → Rows → Answer Bool
refers_to name by referring rows =
    listed_record by referring rows >>= λ entry. Ok (has_name name (reference_of entry))

-- it doesn't
abbrev pub lets_go : List ℕ → Kind → List ℕ → Rows → Answer (Unit {0})
lets_go name by referring rows =
    refers_to name by referring rows >>= λ in_use.
    if in_use then Err (InUse referring) else Ok tt

-- none of the listed names does
unfoldable pub all_let_go : List ℕ → Kind → List (List ℕ) → Rows → Answer (Unit {0})
all_let_go name by [] rows = Ok tt
all_let_go name by (referring ∷ others) rows =
    lets_go name by referring rows >>= λ free. all_let_go name by others rows

-- no record of the kind that may refer to the record of this name does, in the order of names
abbrev pub unused : List ℕ → Option Kind → Rows → Answer (Unit {0})
unused name None rows = Ok tt
unused name (Some by) rows = all_let_go name by (names_of (kind_number by) rows) rows

-- what removing the record of a kind and a name answers
abbrev pub removed_of : Kind → List ℕ → Rows → Answer (Unit {0})
removed_of kind name rows =
    kept kind name rows >>= λ body. unused name (referring_kind kind) rows

-- the rows after it: one row less
abbrev pub rows_removed : Kind → List ℕ → Unit {0} → Rows → Rows
rows_removed kind name done rows = remove rows (key_of kind name)
