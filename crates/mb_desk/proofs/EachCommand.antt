-- What is shown of each command: its change fits the world, and its answer has its meaning.
use Rattle.std.proofs.Common.{Ok, subst, ◌≡◌}
use Rattle.mb_desk.proofs.AnalyseInversions.{analyse_fits, analyse_means}
use Rattle.mb_desk.proofs.BasisInversions.{basis_fits, basis_means}
use Rattle.mb_desk.proofs.CheckInversions.{checks}
use Rattle.mb_desk.proofs.Fitting.{Fits, answers_fit, plan_text}
use Rattle.mb_desk.proofs.GenerateInversions.{tests}
use Rattle.mb_desk.proofs.ImportInversions.{import_fits, import_means}
use Rattle.mb_desk.proofs.Inversions.{counts_moves}
use Rattle.mb_desk.proofs.ReachInversions.{finds_rings}
use Rattle.mb_desk.proofs.StoredInversions.{dataset_fits, dataset_means, export_fits, export_means, list_fits, list_means, model_fits, model_means, remove_fits, remove_means, report_fits, report_means}
use Rattle.mb_desk.specs.Changes.{changed}
use Rattle.mb_desk.specs.CheckCommand.{checked, joins_line}
use Rattle.mb_desk.specs.Commands.{plan_of}
use Rattle.mb_desk.specs.GenerateCommand.{generated, generated_lines}
use Rattle.mb_desk.specs.Headline.{Answers, AnswersCheck, AnswersGenerate, AnswersMoves, AnswersReach}
use Rattle.mb_desk.specs.MovesCommand.{moves_count, moves_line}
use Rattle.mb_desk.specs.Plans.{answers}
use Rattle.mb_desk.specs.ReachCommand.{reach_rings}
use Rattle.mb_desk.specs.World.{World}
use Rattle.mb_desk.specs.declared.plans.Plan.{Plan}
use Rattle.mb_desk.specs.declared.requests.Request.{Request}
use Rattle.mb_desk.specs.declared.requests.Request.TheVariants as requests
use Rattle.mb_reports.specs.RingTable.{ring_table_of}
use Rattle.mb_text.proofs.RecordSteps.{stepped}

-- every plan fits
pub plan_fits : (request : Request) (w : World) (answer : Plan) →
    plan_of request w ≡ Ok answer → Fits answer.change w
plan_fits (requests.Moves words) w answer e =
    let a = stepped (moves_count words w.files)
    (λ count. Ok (answers (moves_line count))) answer e in
    answers_fit w (answers (moves_line a.0)) answer (λ misses. misses) a.2
plan_fits (requests.Reach words) w answer e =
    let a = stepped (reach_rings words w.files)
    (λ rings. Ok (answers (ring_table_of rings))) answer e in
    answers_fit w (answers (ring_table_of a.0)) answer (λ misses. misses) a.2
plan_fits (requests.Check name) w answer e =
    let a = stepped (checked name w.files) (λ c. Ok (answers (joins_line c))) answer e in
    answers_fit w (answers (joins_line a.0)) answer (λ misses. misses) a.2
plan_fits (requests.Generate seed workers) w answer e =
    let a = stepped (generated seed) (λ p. Ok (answers (generated_lines seed p))) answer e in
    answers_fit w (answers (generated_lines seed a.0)) answer (λ misses. misses) a.2
plan_fits (requests.Dataset name file) w answer e = dataset_fits name file w answer e
plan_fits (requests.Model words) w answer e = model_fits words w answer e
plan_fits (requests.Basis words) w answer e = basis_fits words w answer e
plan_fits (requests.Analyse words) w answer e = analyse_fits words w answer e
plan_fits (requests.Import words) w answer e = import_fits words w answer e
plan_fits (requests.Report name) w answer e = report_fits name w answer e
plan_fits requests.List w answer e = list_fits w answer e
plan_fits (requests.Export part name file) w answer e = export_fits part name file w answer e
plan_fits (requests.Remove kind name) w answer e = remove_fits kind name w answer e

-- the answer of a plan has its meaning
pub plan_means : (request : Request) (w : World) (plan : Plan) → plan_of request w ≡ Ok plan →
    Answers request w (changed plan.change w) plan.answer
plan_means (requests.Moves words) w plan e =
    let a = stepped (moves_count words w.files) (λ count. Ok (answers (moves_line count))) plan e in
    subst (λ text. AnswersMoves w.files words text) (plan_text (moves_line a.0) plan a.2)
    (counts_moves w.files words a.0 a.1)
plan_means (requests.Reach words) w plan e =
    let a = stepped (reach_rings words w.files)
    (λ rings. Ok (answers (ring_table_of rings))) plan e in
    subst (λ text. AnswersReach w.files words text) (plan_text (ring_table_of a.0) plan a.2)
    (finds_rings w.files words a.0 a.1)
plan_means (requests.Check name) w plan e =
    let a = stepped (checked name w.files) (λ c. Ok (answers (joins_line c))) plan e in
    subst (λ text. AnswersCheck w.files name text) (plan_text (joins_line a.0) plan a.2)
    (checks w.files name a.0 a.1)
plan_means (requests.Generate seed workers) w plan e =
    let a = stepped (generated seed) (λ p. Ok (answers (generated_lines seed p))) plan e in
    subst (λ text. AnswersGenerate seed text) (plan_text (generated_lines seed a.0) plan a.2)
    (tests seed a.0 a.1)
plan_means (requests.Dataset name file) w plan e = dataset_means name file w plan e
plan_means (requests.Model words) w plan e = model_means words w plan e
plan_means (requests.Basis words) w plan e = basis_means words w plan e
plan_means (requests.Analyse words) w plan e = analyse_means words w plan e
plan_means (requests.Import words) w plan e = import_means words w plan e
plan_means (requests.Report name) w plan e = report_means name w plan e
plan_means requests.List w plan e = list_means w plan e
plan_means (requests.Export part name file) w plan e = export_means part name file w plan e
plan_means (requests.Remove kind name) w plan e = remove_means kind name w plan e
