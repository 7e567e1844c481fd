-- The laws of reports.
use Rattle.std.specs.Prelude.{List, Ok, sum, ℕ, ◌<◌, ◌^◌, ◌≡◌}
use Rattle.mb_reports.specs.Report.{FitsReport, IsReport, Report, report_text}
use Rattle.mb_reports.specs.ReportText.{report_of}

-- what is written of a report is read as the report
abbrev pub WrittenReportIsRead : Type 0
WrittenReportIsRead =
    (report : Report) → IsReport report → FitsReport report → sum report.rings < 2 ^ 128 →
    report_of (report_text report) ≡ Ok report

-- a text that is read as a report is what is written of it, and the report is one
pub record ReadReportIsWritten : Type 0 where
  pub written : (text : List ℕ) (report : Report) → report_of text ≡ Ok report →
      text ≡ report_text report
  pub sound : (text : List ℕ) (report : Report) → report_of text ≡ Ok report → IsReport report
  pub fits : (text : List ℕ) (report : Report) → report_of text ≡ Ok report → FitsReport report
