-- What an analysis says.
use Rattle.std.specs.String.{string_bytes}
use Rattle.mb_reports.specs.Report.{Report}
use Rattle.mb_reports.specs.declared.analysis.Analysis.{Analysis}

-- the report on an analysis
abbrev pub report_on : Analysis → Report
report_on analysis = record {
  name = string_bytes analysis.name;
  basis = string_bytes analysis.basis;
  model = string_bytes analysis.model;
  dataset = string_bytes analysis.dataset;
  observed = analysis.observed;
  rings = analysis.rings.items;
  weight = analysis.weight;
  below = analysis.below;
  whole = analysis.whole;
}
