-- The command `report`: the report of an analysis that is kept.
use Rattle.std.specs.Prelude.{List, Ok, ℕ}
use Rattle.mb_desk.specs.Decision.{Decided}
use Rattle.mb_desk.specs.Plans.{answers}
use Rattle.mb_desk.specs.Recorded.{found}
use Rattle.mb_desk.specs.declared.plans.Plan.{Plan}
use Rattle.mb_outside.specs.Rows.{Rows}
use Rattle.mb_registry.specs.Looking.{analysis_named}
use Rattle.mb_reports.specs.Report.{report_text}
use Rattle.mb_tables.specs.Answers.{◌>>=◌}

-- the report of the analysis of a name, as it is printed
abbrev pub printed_report : List ℕ → Rows → Decided (List ℕ)
printed_report name rows = found (analysis_named name) rows >>= λ report. Ok (report_text report)

-- the plan of the command: the report is printed
abbrev pub report_plan : List ℕ → Rows → Decided Plan
report_plan name rows = printed_report name rows >>= λ text. Ok (answers text)
