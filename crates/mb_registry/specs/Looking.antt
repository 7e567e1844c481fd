-- Look-ups: the record of a kind and a name.
use Rattle.std.specs.FinMap.{get}
use Rattle.std.specs.Option.{ok_or}
use Rattle.std.specs.Prelude.{List, Option, ℕ}
use Rattle.mb_certificate.specs.Certificate.{Certificate}
use Rattle.mb_data.specs.CrossTable.{CrossTable}
use Rattle.mb_kinds.specs.Model.{ModelValue}
use Rattle.mb_outside.specs.Rows.{Rows}
use Rattle.mb_registry.specs.Bodies.{analysis_body, basis_body, dataset_body, model_body, record_of}
use Rattle.mb_registry.specs.Faults.{Answer}
use Rattle.mb_registry.specs.Kinds.{key_of}
use Rattle.mb_registry.specs.Records.{RecordValue}
use Rattle.mb_registry.specs.declared.fault.RegistryFault.TheVariants.{BadRecord, Unknown}
use Rattle.mb_registry.specs.declared.kinds.Kind.{Kind}
use Rattle.mb_registry.specs.declared.kinds.Kind.TheVariants.{Analysis, Basis, Dataset, Model}
use Rattle.mb_reports.specs.Report.{Report}
use Rattle.mb_tables.specs.Answers.{◌>>=◌}

-- the body that is kept under a kind and a name
abbrev pub kept : Kind → List ℕ → Rows → Answer (List ℕ)
kept kind name rows = ok_or (get rows (key_of kind name)) (Unknown kind name)

-- what that body is, read so
abbrev pub kept_as : {A : Type 0} → Kind → (List ℕ → Option A) → List ℕ → Rows → Answer A
kept_as kind read name rows =
    kept kind name rows >>= λ body. ok_or (read body) (BadRecord kind name)

-- the record of a kind and a name
abbrev pub get_of : Kind → List ℕ → Rows → Answer RecordValue
get_of kind name rows = kept_as kind (record_of kind) name rows

-- the dataset of a name
abbrev pub dataset_named : List ℕ → Rows → Answer CrossTable
dataset_named name rows = kept_as Dataset dataset_body name rows

-- the model of a name, and the name of its dataset before it
abbrev pub model_named : List ℕ → Rows → Answer (List ℕ × ModelValue)
model_named name rows = kept_as Model model_body name rows

-- the certificate of the basis of a name, and the name of its model before it
abbrev pub basis_named : List ℕ → Rows → Answer (List ℕ × Certificate)
basis_named name rows = kept_as Basis basis_body name rows

-- the report of the analysis of a name
abbrev pub analysis_named : List ℕ → Rows → Answer Report
analysis_named name rows = kept_as Analysis analysis_body name rows
