use Rattle.mb_reports.proofs.ReportTexts.{report_back}
use Rattle.mb_reports.proofs.laws.read_report_is_written.Goals as goal

pub returns : goal.returns
returns c = record {
  written = λ text report e. (report_back text report e).written;
  sound = λ text report e. (report_back text report e).is;
  fits = λ text report e. (report_back text report e).fits;
}
