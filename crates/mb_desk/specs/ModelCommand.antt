-- The command `model`: a model of a dataset is read from a file and kept.
use Rattle.std.specs.FinMap.{get}
use Rattle.std.specs.Fmt.{decimal}
use Rattle.std.specs.Prelude.{List, None, Ok, Option, Some, [], codes, length, ℕ, ◌++◌, ◌∷◌}
use Rattle.mb_data.specs.CrossTable.{CrossTable}
use Rattle.mb_desk.specs.Decision.{Decided, or_refusal}
use Rattle.mb_desk.specs.Inputs.{body_of, text_refusal, text_stop}
use Rattle.mb_desk.specs.ReachCommand.{matrix_refusal, matrix_stop}
use Rattle.mb_desk.specs.Recorded.{found, kept_plan}
use Rattle.mb_desk.specs.World.{World}
use Rattle.mb_desk.specs.declared.plans.Plan.{Plan}
use Rattle.mb_desk.specs.declared.plans.Stop.{Stop}
use Rattle.mb_desk.specs.declared.plans.Stop.TheVariants.{Memory, Refused}
use Rattle.mb_desk.specs.declared.refusals.Refusal.{Refusal}
use Rattle.mb_desk.specs.declared.refusals.Refusal.TheVariants as refusals
use Rattle.mb_desk.specs.declared.requests.ModelWords.{ModelWords}
use Rattle.mb_kinds.specs.Kinds.{model_of}
use Rattle.mb_kinds.specs.Model.{ModelValue}
use Rattle.mb_kinds.specs.Record.{written_record}
use Rattle.mb_kinds.specs.declared.kind_fault.KindFault.{KindFault}
use Rattle.mb_kinds.specs.declared.kind_fault.KindFault.TheVariants as faults
use Rattle.mb_matrix.specs.Matrix.{Design}
use Rattle.mb_matrix.specs.declared.measure_fault.MeasureFault.{MeasureFault}
use Rattle.mb_matrix.specs.declared.measure_fault.MeasureFault.TheVariants as measures
use Rattle.mb_outside.specs.Files.{Held}
use Rattle.mb_outside.specs.Rows.{Rows}
use Rattle.mb_registry.specs.Bodies.{model_record}
use Rattle.mb_registry.specs.Looking.{dataset_named}
use Rattle.mb_registry.specs.declared.kinds.Kind.TheVariants.{Dataset, Model}
use Rattle.mb_tables.specs.Answers.{◌>>=◌}

-- ---- refusals

-- the refusal of a measure for its fault; no measure has the last of these
abbrev pub measure_refusal : MeasureFault → Refusal
measure_refusal (measures.BadScaleRow row) = refusals.BadScaleRow row
measure_refusal (measures.ScaleNotCover cell) = refusals.ScaleNotCover cell
measure_refusal (measures.BadBase cell) = refusals.BadBase cell
measure_refusal measures.OutOfMemory = refusals.BadBase 0

-- why the work stops for the fault of a measure
abbrev pub measure_stop : MeasureFault → Stop
measure_stop measures.OutOfMemory = Memory
measure_stop fault = Refused (measure_refusal fault)

-- the refusal for the fault of a model file on a dataset; the model file is the first file, and the
-- matrix file the second. No file has the last of these
abbrev pub kind_refusal : KindFault → Refusal
kind_refusal faults.Toml = refusals.Toml 1
kind_refusal faults.UnknownKind = refusals.UnknownKind
kind_refusal (faults.MissingKey key) = refusals.MissingKey key
kind_refusal faults.UnknownFactor = refusals.UnknownFactor
kind_refusal faults.EmptyGenerators = refusals.EmptyGenerators
kind_refusal faults.NotTwoFactors = refusals.NotTwoFactors
kind_refusal faults.NotBinary = refusals.NotBinary
kind_refusal (faults.MatrixText fault) = text_refusal 2 fault
kind_refusal (faults.CellCount matrix cells) = refusals.CellCount matrix cells
kind_refusal (faults.Matrix fault) = matrix_refusal fault
kind_refusal (faults.Measure fault) = measure_refusal fault
kind_refusal faults.OutOfMemory = refusals.UnknownKind

-- why the work stops for that fault
abbrev pub kind_stop : KindFault → Stop
kind_stop faults.OutOfMemory = Memory
kind_stop (faults.MatrixText fault) = text_stop 2 fault
kind_stop (faults.Matrix fault) = matrix_stop fault
kind_stop (faults.Measure fault) = measure_stop fault
kind_stop fault = Refused (kind_refusal fault)

-- ---- the plan

-- the text of the matrix file, if one is given
abbrev pub second_text : Option (List ℕ) → Held → Decided (Option (List ℕ))
second_text None held = Ok None
second_text (Some file) held = body_of 2 (get held file) >>= λ text. Ok (Some text)

-- the texts of the model file and of the matrix file, read in order
abbrev pub model_texts : ModelWords → Held → Decided (List ℕ × Option (List ℕ))
model_texts words held = do
  text ← body_of 1 (get held words.file)
  matrix ← second_text words.matrix held
  Ok (text, matrix)

-- the model that the two texts say on a dataset
abbrev pub model_text : List ℕ × Option (List ℕ) → CrossTable → Decided ModelValue
model_text texts table = or_refusal kind_refusal (model_of texts.0 texts.1 table)

-- the line of the numbers of margins and of cells
abbrev pub margins_line : Design → List ℕ
margins_line matrix =
    codes "margins " ++ (decimal matrix.rows
    ++ (codes " cells " ++ (decimal (length matrix.columns) ++ 10 ∷ [])))

-- the model that two texts say on the dataset of a name: the dataset is looked up first
abbrev pub model_read : List ℕ → List ℕ × Option (List ℕ) → Rows → Decided ModelValue
model_read dataset texts rows =
    found (dataset_named dataset) rows >>= λ table. model_text texts table

-- the model is kept under a name, and the line printed
abbrev pub model_kept : List ℕ → List ℕ → ModelValue → Rows → Decided Plan
model_kept name dataset model rows =
    kept_plan Model name (Some (Dataset, dataset)) (written_record (model_record dataset model))
    (margins_line model.matrix) rows

-- the dataset is looked up, then the texts are read on it, and the model is kept
abbrev pub model_added : ModelWords → List ℕ × Option (List ℕ) → Rows → Decided Plan
model_added words texts rows =
    model_read words.dataset texts rows >>= λ model.
    model_kept words.name words.dataset model rows

-- the plan of the command: the files are read first
abbrev pub model_plan : ModelWords → World → Decided Plan
model_plan words w = model_texts words w.files >>= λ texts. model_added words texts w.rows
