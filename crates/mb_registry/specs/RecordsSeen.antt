-- What a record of the program says.
use Rattle.mb_registry.specs.Records.{OfAnalysis, OfBasis, OfDataset, OfModel, RecordValue}
use Rattle.mb_registry.specs.declared.records.Record.{Record}
use Rattle.mb_registry.specs.declared.records.Record.TheVariants as records
use Rattle.mb_reports.specs.Analysed.{report_on}

-- the same of the program's record
abbrev pub record_value : Record → RecordValue
record_value (records.Dataset table) = OfDataset table
record_value (records.Model dataset model) = OfModel dataset model
record_value (records.Basis model certificate) = OfBasis model certificate
record_value (records.Analysis analysis) = OfAnalysis (report_on analysis)
