-- The bodies of records: the one text that a record is kept as, and the record that a body is.
use Rattle.std.specs.List.{join_with_byte}
use Rattle.std.specs.Option.{option_and_then, option_map}
use Rattle.std.specs.Prelude.{List, Option, Result, [], codes, sum, ℕ, ◌++◌, ◌<◌, ◌^◌, ◌∷◌}
use Rattle.std.specs.Result.{result_ok}
use Rattle.std.specs.Str.{bytes_eq}
use Rattle.mb_certificate.specs.Certificate.{AreParts, Certificate}
use Rattle.mb_certificate.specs.CertificateText.{certificate_of}
use Rattle.mb_certificate.specs.Written.{text_of}
use Rattle.mb_data.specs.CrossTable.{CrossTable}
use Rattle.mb_data.specs.Dataset.{IsCrossTable}
use Rattle.mb_data.specs.DatasetText.{dataset_of}
use Rattle.mb_data.specs.Written.{written}
use Rattle.mb_kinds.specs.Record as models
use Rattle.mb_kinds.specs.RecordText as model_texts
use Rattle.mb_registry.specs.Records.{OfAnalysis, OfBasis, OfDataset, OfModel, RecordValue}
use Rattle.mb_registry.specs.declared.kinds.Kind.{Kind}
use Rattle.mb_registry.specs.declared.kinds.Kind.TheVariants.{Analysis, Basis, Dataset, Model}
use Rattle.mb_kinds.specs.Model.{ModelValue}
use Rattle.mb_reports.specs.Report.{FitsReport, IsReport, Report, report_text}
use Rattle.mb_reports.specs.ReportText.{report_of}
use Rattle.mb_tables.specs.Answers.{◌>>=◌}
use Rattle.mb_text.specs.LineForms.{exactly, name_after, passing}
use Rattle.mb_text.specs.Lines.{line, lines}
use Rattle.mb_text.specs.Name.{IsName}
use Rattle.mb_text.specs.RecordLines.{says}

-- ---- from a record to its body

-- the body of a basis: its version, the name of its model, and the text of the certificate
abbrev pub basis_text : List ℕ → Certificate → List ℕ
basis_text model certificate =
    line (codes "basis" ∷ codes "1" ∷ [])
    ++ (line (codes "model" ∷ model ∷ []) ++ text_of certificate)

-- the record of a model and the name of its dataset
abbrev pub model_record : List ℕ → ModelValue → models.ModelRecord
model_record dataset model = record { dataset = dataset; model = model }

-- the body of a record
abbrev pub body_of : RecordValue → List ℕ
body_of (OfDataset table) = written table
body_of (OfModel dataset model) = models.written_record (model_record dataset model)
body_of (OfBasis model certificate) = basis_text model certificate
body_of (OfAnalysis report) = report_text report

-- ---- from a body to its record

-- the dataset that a body is: one of which the body is the written form
abbrev pub dataset_body : List ℕ → Option CrossTable
dataset_body body =
    option_and_then (passing (λ table. bytes_eq body (written table))) (result_ok (dataset_of body))

-- the name of its dataset and the model that a body is
abbrev pub model_body : List ℕ → Option (List ℕ × ModelValue)
model_body body =
    option_map (λ (entry : models.ModelRecord). (entry.dataset, entry.model))
    (result_ok (model_texts.record_of body))

-- the name of its model, and the pieces of the lines after it
unfoldable pub basis_head : List ℕ → Result (List ℕ × List (List ℕ)) ℕ
basis_head body =
    says 1 (exactly (codes "basis 1")) (lines body) >>= λ version.
    says 2 (name_after (codes "model")) version.1

-- the certificate that the pieces of lines are
abbrev pub certificate_in : List (List ℕ) → Option Certificate
certificate_in pieces = result_ok (certificate_of (join_with_byte 10 pieces))

-- the name of its model and the certificate that a body is
abbrev pub basis_body : List ℕ → Option (List ℕ × Certificate)
basis_body body =
    option_and_then (λ head. option_map (λ c. (head.0, c)) (certificate_in head.1))
    (result_ok (basis_head body))

-- the report that a body is
abbrev pub analysis_body : List ℕ → Option Report
analysis_body body = result_ok (report_of body)

-- the record of a kind that a body is
abbrev pub record_of : Kind → List ℕ → Option RecordValue
record_of Dataset body = option_map OfDataset (dataset_body body)
record_of Model body = option_map (λ m. OfModel m.0 m.1) (model_body body)
record_of Basis body = option_map (λ b. OfBasis b.0 b.1) (basis_body body)
record_of Analysis body = option_map OfAnalysis (analysis_body body)

-- ---- which records have bodies

-- a record that has a body: within the limits, and with names that are names
abbrev pub IsRecord : RecordValue → Type 0
IsRecord (OfDataset table) = IsCrossTable table
IsRecord (OfModel dataset model) = models.IsModelRecord (model_record dataset model)
IsRecord (OfBasis model certificate) = IsName model × AreParts certificate
IsRecord (OfAnalysis report) = IsReport report × FitsReport report

-- a report has fewer than 2^128 tables, as every report has that the program can hold
abbrev pub HasFewTables : RecordValue → Type 0
HasFewTables (OfDataset table) = Unit {0}
HasFewTables (OfModel dataset model) = Unit {0}
HasFewTables (OfBasis model certificate) = Unit {0}
HasFewTables (OfAnalysis report) = sum report.rings < 2 ^ 128

-- what a caller has to know of a record for its body to be made; all but reports know it themselves
abbrev pub CanBeWritten : RecordValue → Type 0
CanBeWritten (OfDataset table) = Unit {0}
CanBeWritten (OfModel dataset model) = Unit {0}
CanBeWritten (OfBasis model certificate) = Unit {0}
CanBeWritten (OfAnalysis report) = IsReport report
