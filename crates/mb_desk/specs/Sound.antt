-- Sound rows: orderly rows whose records fit each other.
use Rattle.std.specs.Prelude.{List, Ok, length, ℕ, ◌≡◌}
use Rattle.mb_certificate.specs.Certificate.{Certificate}
use Rattle.mb_certificate.specs.Valid.{IsValid}
use Rattle.mb_data.specs.CrossTable.{CrossTable, counts}
use Rattle.mb_desk.specs.AnalyseCommand.{records_named}
use Rattle.mb_desk.specs.AnalysisAnswers.{tested_report}
use Rattle.mb_desk.specs.ExactTest.{IsExactTest}
use Rattle.mb_desk.specs.declared.commands.analyse.Records.{Records}
use Rattle.mb_kinds.specs.Model.{ModelValue}
use Rattle.mb_outside.specs.Rows.{Rows}
use Rattle.mb_registry.specs.Looking.{dataset_named, get_of, model_named}
use Rattle.mb_registry.specs.Orderly.{AreOrderly}
use Rattle.mb_registry.specs.Records.{OfAnalysis, OfBasis, OfDataset, OfModel, RecordValue}
use Rattle.mb_registry.specs.declared.kinds.Kind.{Kind}
use Rattle.mb_reports.specs.Report.{Report}
use Rattle.mb_rings.specs.Ring.{Ring}
use Rattle.mb_weights.specs.PValue.{Fraction}

-- a model has as many cells as the dataset that it names
pub record IsSoundModel (rows : Rows) (dataset : List ℕ) (model : ModelValue) : Type 0 where
  pub table : CrossTable
  pub there : dataset_named dataset rows ≡ Ok table
  pub cells : length model.matrix.columns ≡ length (counts table.entries)

-- a basis is a valid certificate of the design matrix of the model that it names
pub record IsSoundBasis (rows : Rows) (name : List ℕ) (c : Certificate) : Type 0 where
  pub dataset : List ℕ
  pub model : ModelValue
  pub there : model_named name rows ≡ Ok (dataset, model)
  pub matrix : c.matrix ≡ model.matrix
  pub valid : IsValid c

-- the report, under a name, on the exact test by a basis, of the records that it leads to
abbrev pub test_report : List ℕ → List ℕ → Records → List Ring → Fraction → Report
test_report name basis records rings fraction =
    tested_report name basis records.model_name records.dataset_name records.model
    (counts records.dataset.entries) rings fraction

-- an analysis is the report on the exact test of the dataset that its basis leads to, by the moves
-- of this basis
pub record IsSoundAnalysis (rows : Rows) (name : List ℕ) (report : Report) : Type 0 where
  pub records : Records
  pub rings : List Ring
  pub fraction : Fraction
  pub there : records_named report.basis rows ≡ Ok records
  pub test : IsExactTest records.model.matrix records.certificate.moves records.model.measure
      (counts records.dataset.entries) rings fraction
  pub said : report ≡ test_report name report.basis records rings fraction

-- the record of a name fits those that it leads to
abbrev pub IsSoundRecord : Rows → List ℕ → RecordValue → Type 0
IsSoundRecord rows name (OfDataset table) = Unit {0}
IsSoundRecord rows name (OfModel dataset model) = IsSoundModel rows dataset model
IsSoundRecord rows name (OfBasis model c) = IsSoundBasis rows model c
IsSoundRecord rows name (OfAnalysis report) = IsSoundAnalysis rows name report

-- rows are sound where they are orderly and each record fits
pub record AreSound (rows : Rows) : Type 0 where
  pub orderly : AreOrderly rows
  pub each : (kind : Kind) (name : List ℕ) (entry : RecordValue) →
      get_of kind name rows ≡ Ok entry → IsSoundRecord rows name entry
