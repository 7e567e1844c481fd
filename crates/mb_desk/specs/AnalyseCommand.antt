-- The command `analyse`: the exact test of a dataset by the moves of a basis, kept and printed.
use Rattle.std.specs.Prelude.{Bool, Err, List, Ok, Some, if◌then◌else◌, length, nat_eq, ℕ, ◌&&◌}
use Rattle.mb_certificate.specs.FirstFault.{are_same}
use Rattle.mb_data.specs.CrossTable.{CrossTable, counts}
use Rattle.mb_desk.specs.Decision.{Decided, or_refusal}
use Rattle.mb_desk.specs.ExactTest.{Numbers, numbers_of}
use Rattle.mb_desk.specs.GenerateCommand.{numbers_refusal}
use Rattle.mb_desk.specs.Recorded.{found, kept_plan}
use Rattle.mb_desk.specs.declared.commands.analyse.Records.{Records}
use Rattle.mb_desk.specs.declared.plans.Plan.{Plan}
use Rattle.mb_desk.specs.declared.refusals.Refusal.TheVariants as refusals
use Rattle.mb_desk.specs.declared.requests.AnalyseWords.{AnalyseWords}
use Rattle.mb_kinds.specs.Model.{ModelValue}
use Rattle.mb_matrix.specs.Matrix.{Design}
use Rattle.mb_outside.specs.Rows.{Rows}
use Rattle.mb_registry.specs.Looking.{basis_named, dataset_named, model_named}
use Rattle.mb_registry.specs.declared.kinds.Kind.TheVariants.{Analysis, Basis, Model}
use Rattle.mb_reports.specs.Report.{Report, report_text}
use Rattle.mb_tables.specs.Answers.{◌>>=◌}
use lib.Pointwise.{pointwise}

-- the model of a name, and before it the name of its dataset, and after it this dataset
abbrev pub modelled : List ℕ → Rows → Decided (List ℕ × ModelValue × CrossTable)
modelled name rows = do
  model ← found (model_named name) rows
  dataset ← found (dataset_named model.0) rows
  Ok (model.0, model.1, dataset)

-- the records of an analysis: the basis of a name, the model that it names, and the dataset that
-- this names, looked up in this order
abbrev pub records_named : List ℕ → Rows → Decided Records
records_named basis rows = do
  proved ← found (basis_named basis) rows
  model ← modelled proved.0 rows
  Ok (record {
    model_name = proved.0;
    certificate = proved.1;
    dataset_name = model.0;
    model = model.1;
    dataset = model.2;
  })

-- whether two design matrices are the same
unfoldable pub same_design : Design → Design → Bool
same_design a b = nat_eq a.rows b.rows && pointwise are_same a.columns b.columns

-- the certificate is to be of the model's matrix
abbrev pub of_one_matrix : List ℕ → Records → Decided (Unit {0})
of_one_matrix basis records =
    if same_design records.certificate.matrix records.model.matrix
    then Ok tt
    else Err (refusals.BadRecord Basis basis)

-- and the model is to have the dataset's cells
abbrev pub of_one_size : Records → Decided (Unit {0})
of_one_size records =
    if nat_eq (length records.model.matrix.columns) (length (counts records.dataset.entries))
    then Ok tt
    else Err (refusals.BadRecord Model records.model_name)

-- the numbers of the exact test of the dataset's table
abbrev pub records_tested : ℕ → Records → Decided Numbers
records_tested limit records =
    or_refusal numbers_refusal
    (numbers_of limit records.certificate records.model.measure (counts records.dataset.entries))

-- the report on these numbers
abbrev pub report_of : AnalyseWords → Records → Numbers → Report
report_of words records numbers = record {
  name = words.name;
  basis = words.basis;
  model = records.model_name;
  dataset = records.dataset_name;
  observed = counts records.dataset.entries;
  rings = numbers.sizes;
  weight = numbers.weight;
  below = numbers.fraction.below;
  whole = numbers.fraction.whole;
}

-- the text of the report on the records, which are to fit each other
abbrev pub reported : AnalyseWords → Records → Decided (List ℕ)
reported words records = do
  matrix ← of_one_matrix words.basis records
  cells ← of_one_size records
  numbers ← records_tested words.limit records
  Ok (report_text (report_of words records numbers))

-- the same of the records by the basis that is named
abbrev pub report_named : AnalyseWords → Rows → Decided (List ℕ)
report_named words rows = records_named words.basis rows >>= reported words

-- the plan of the command: the records are looked up and tested, and the report is kept and printed
abbrev pub analyse_plan : AnalyseWords → Rows → Decided Plan
analyse_plan words rows = do
  report ← report_named words rows
  kept_plan Analysis words.name (Some (Basis, words.basis)) report report rows
