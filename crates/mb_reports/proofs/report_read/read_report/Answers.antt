use Rattle.mb_reports.proofs.ReportTexts.{parts_are}
use Rattle.mb_text.specs.Lines.{lines}
use Rattle.mb_reports.proofs.report_read.read_report.Goals as goal

pub returns-clause-sound : goal.returns-clause-sound
returns-clause-sound c =
    (parts_are (lines c.args.text.now) _ _ _ _ _ c.in_ok-name.ensures c.in_ok-observed.ensures
    c.in_ok-weight.ensures).0
