-- What records say, and to which records they refer.
use Rattle.std.specs.Prelude.{List, None, Option, Some, ℕ}
use Rattle.mb_certificate.specs.Certificate.{Certificate}
use Rattle.mb_data.specs.CrossTable.{CrossTable}
use Rattle.mb_kinds.specs.Model.{ModelValue}
use Rattle.mb_registry.specs.declared.kinds.Kind.{Kind}
use Rattle.mb_registry.specs.declared.kinds.Kind.TheVariants.{Analysis, Basis, Dataset, Model}
use Rattle.mb_reports.specs.Report.{Report}

-- a dataset; a log-linear model of a dataset of this name; a certificate of a Markov basis of a
-- model of this name; or the report of an exact test
pub data RecordValue : Type 0 where
  OfDataset : CrossTable → RecordValue
  OfModel : (dataset : List ℕ) → ModelValue → RecordValue
  OfBasis : (model : List ℕ) → Certificate → RecordValue
  OfAnalysis : Report → RecordValue

-- the kind of a record
abbrev pub kind_of : RecordValue → Kind
kind_of (OfDataset table) = Dataset
kind_of (OfModel dataset model) = Model
kind_of (OfBasis model certificate) = Basis
kind_of (OfAnalysis report) = Analysis

-- the kind and the name of the record that one refers to: a model to its dataset, a basis to its
-- model, an analysis to its basis
abbrev pub reference_of : RecordValue → Option (Kind × List ℕ)
reference_of (OfDataset table) = None
reference_of (OfModel dataset model) = Some (Dataset, dataset)
reference_of (OfBasis model certificate) = Some (Model, model)
reference_of (OfAnalysis report) = Some (Basis, report.basis)

-- the kind of the records that refer to those of a kind
abbrev pub referring_kind : Kind → Option Kind
referring_kind Dataset = Some Model
referring_kind Model = Some Basis
referring_kind Basis = Some Analysis
referring_kind Analysis = None
