use Rattle.mb_reports.proofs.ReportTexts.{report_said}
use Rattle.mb_reports.proofs.laws.written_report_is_read.Goals as goal

pub returns : goal.returns
returns c = report_said
