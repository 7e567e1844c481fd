-- Adding a record.
use Rattle.std.specs.FinMap.{get, insert}
use Rattle.std.specs.Prelude.{Err, List, None, Ok, Option, Some, if◌then◌else◌, ℕ}
use Rattle.std.specs.Str.{bytes_eq}
use Rattle.mb_outside.specs.Rows.{Rows}
use Rattle.mb_registry.specs.Faults.{Answer}
use Rattle.mb_registry.specs.Kinds.{key_of}
use Rattle.mb_registry.specs.Looking.{kept}
use Rattle.mb_registry.specs.declared.adding.Added.{Added}
use Rattle.mb_registry.specs.declared.adding.Added.TheVariants.{Stored, Unchanged}
use Rattle.mb_registry.specs.declared.fault.RegistryFault.TheVariants.{Conflict}
use Rattle.mb_registry.specs.declared.kinds.Kind.{Kind}
use Rattle.mb_tables.specs.Answers.{◌>>=◌}

-- the record that is referred to is there, where there is a reference
abbrev pub refers : Option (Kind × List ℕ) → Rows → Answer (Unit {0})
refers None rows = Ok tt
refers (Some reference) rows = kept reference.0 reference.1 rows >>= λ body. Ok tt

-- a body beside the one that is kept, if any: the equal one is left, and another is in the way
abbrev pub beside_kept : List ℕ → Option (List ℕ) → Answer Added
beside_kept body None = Ok Stored
beside_kept body (Some old) = if bytes_eq old body then Ok Unchanged else Err (Conflict old)

-- what adding a record of this kind, name, reference and body answers
abbrev pub added_of : Kind → List ℕ → Option (Kind × List ℕ) → List ℕ → Rows → Answer Added
added_of kind name reference body rows =
    refers reference rows >>= λ there. beside_kept body (get rows (key_of kind name))

-- the rows after it: one more row where it is stored
abbrev pub rows_added : Kind → List ℕ → List ℕ → Added → Rows → Rows
rows_added kind name body Stored rows = insert rows (key_of kind name) body
rows_added kind name body Unchanged rows = rows
