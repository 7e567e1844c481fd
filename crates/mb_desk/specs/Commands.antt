-- What each command decides, and what it needs.
use Rattle.std.specs.Prelude.{Option, ℕ}
use Rattle.mb_desk.specs.DatasetCommand.{dataset_plan}
use Rattle.mb_desk.specs.ModelCommand.{model_plan}
use Rattle.mb_desk.specs.BasisCommand.{basis_plan}
use Rattle.mb_desk.specs.ImportCommand.{import_plan}
use Rattle.mb_desk.specs.AnalyseCommand.{analyse_plan}
use Rattle.mb_desk.specs.ReportCommand.{report_plan}
use Rattle.mb_desk.specs.ListCommand.{list_plan}
use Rattle.mb_desk.specs.ExportCommand.{export_plan}
use Rattle.mb_desk.specs.RemoveCommand.{remove_plan}
use Rattle.mb_desk.specs.CheckCommand.{check_plan}
use Rattle.mb_desk.specs.Decision.{Decided, Scene}
use Rattle.mb_desk.specs.GenerateCommand.{generate_plan}
use Rattle.mb_desk.specs.MovesCommand.{moves_plan}
use Rattle.mb_desk.specs.Needs.{Both, FilesAlone, Needs, Neither, RowsAlone, needed_files, needed_rows}
use Rattle.mb_desk.specs.ReachCommand.{reach_plan}
use Rattle.mb_desk.specs.World.{World}
use Rattle.mb_desk.specs.declared.plans.Plan.{Plan}
use Rattle.mb_desk.specs.declared.requests.Request.{Request}
use Rattle.mb_desk.specs.declared.requests.Request.TheVariants as requests
use Rattle.mb_outside.specs.Files.{Held}
use Rattle.mb_outside.specs.Rows.{Rows}

-- the plan of a request, or its first refusal
abbrev pub plan_of : Request → World → Decided Plan
plan_of (requests.Moves words) w = moves_plan words w.files
plan_of (requests.Reach words) w = reach_plan words w.files
plan_of (requests.Check certificate) w = check_plan certificate w.files
plan_of (requests.Generate seed workers) w = generate_plan seed
plan_of (requests.Dataset name file) w = dataset_plan name file w
plan_of (requests.Model words) w = model_plan words w
plan_of (requests.Basis words) w = basis_plan words w.rows
plan_of (requests.Import words) w = import_plan words w
plan_of (requests.Analyse words) w = analyse_plan words w.rows
plan_of (requests.Report name) w = report_plan name w.rows
plan_of requests.List w = list_plan w.rows
plan_of (requests.Export part name file) w = export_plan part name file w
plan_of (requests.Remove kind name) w = remove_plan kind name w.rows

-- what each request needs
abbrev pub needs_of : Request → Needs
needs_of (requests.Moves words) = FilesAlone
needs_of (requests.Reach words) = FilesAlone
needs_of (requests.Check certificate) = FilesAlone
needs_of (requests.Generate seed workers) = Neither
needs_of (requests.Dataset name file) = Both
needs_of (requests.Model words) = Both
needs_of (requests.Basis words) = RowsAlone
needs_of (requests.Import words) = Both
needs_of (requests.Analyse words) = RowsAlone
needs_of (requests.Report name) = RowsAlone
needs_of requests.List = RowsAlone
needs_of (requests.Export part name file) = Both
needs_of (requests.Remove kind name) = RowsAlone

-- what is seen for a request, from its parts
abbrev pub scene_for : Request → Option Held → ℕ → Option Rows → ℕ → Scene
scene_for request files files_failed rows rows_failed = record {
  files = needed_files (needs_of request) files;
  files_failed = files_failed;
  rows = needed_rows (needs_of request) rows;
  rows_failed = rows_failed;
}
