-- Every plan keeps rows sound.
use Rattle.std.proofs.Common.{List, Ok, Some, ap, subst, ℕ, ◌≡◌, ◌≤◌}
use Rattle.std.specs.FinMap.{get}
use Rattle.mb_certificate.specs.Certificate.{AreParts, Certificate}
use Rattle.mb_data.specs.DatasetText.{dataset_of}
use Rattle.mb_desk.proofs.AnalyseInversions.{is_analysed}
use Rattle.mb_desk.proofs.BasisInversions.{is_completed}
use Rattle.mb_desk.proofs.Fitting.{or_ok}
use Rattle.mb_desk.proofs.FreeRows.{removed_sound}
use Rattle.mb_desk.proofs.ImportInversions.{is_imported}
use Rattle.mb_desk.proofs.KeptRecords.{found_ok}
use Rattle.mb_desk.proofs.LinkedRecords.{records_linked}
use Rattle.mb_desk.proofs.SoundRecords.{basis_sound, beside_sound, dataset_is, decided_keeps, kept_sound, looked_named, model_is}
use Rattle.mb_desk.proofs.SoundReports.{made_few, made_fits, made_is_report, made_report, made_sound}
use Rattle.mb_desk.proofs.StoredInversions.{keeps_dataset, keeps_model}
use Rattle.mb_desk.specs.AnalyseCommand.{analyse_plan, report_named}
use Rattle.mb_desk.specs.BasisCommand.{basis_plan, certificate_lines, completed_named, completion_lines}
use Rattle.mb_desk.specs.Changes.{changed}
use Rattle.mb_desk.specs.CheckCommand.{checked, joins_line}
use Rattle.mb_desk.specs.Commands.{plan_of}
use Rattle.mb_desk.specs.DatasetCommand.{cells_line, data_refusal, dataset_file, dataset_plan, dataset_text}
use Rattle.mb_desk.specs.ExportCommand.{exported, writing}
use Rattle.mb_desk.specs.GenerateCommand.{generated, generated_lines}
use Rattle.mb_desk.specs.ImportCommand.{import_added, import_kept, import_plan, imported, moves_file}
use Rattle.mb_desk.specs.Inputs.{body_of}
use Rattle.mb_desk.specs.ListCommand.{printed_list}
use Rattle.mb_desk.specs.ModelCommand.{margins_line, model_plan}
use Rattle.mb_desk.specs.MovesCommand.{moves_count, moves_line}
use Rattle.mb_desk.specs.Plans.{answers}
use Rattle.mb_desk.specs.ReachCommand.{reach_rings}
use Rattle.mb_desk.specs.Recorded.{change_refusal, kept_plan}
use Rattle.mb_desk.specs.RemoveCommand.{removable, remove_plan, removing}
use Rattle.mb_desk.specs.ReportCommand.{printed_report}
use Rattle.mb_desk.specs.Sound.{AreSound}
use Rattle.mb_desk.specs.SoundLaws.{CanBeSaid, IsRequest}
use Rattle.mb_desk.specs.World.{World}
use Rattle.mb_desk.specs.declared.completing.Completion.{Completion}
use Rattle.mb_desk.specs.declared.plans.Plan.{Plan}
use Rattle.mb_desk.specs.declared.requests.AnalyseWords.{AnalyseWords}
use Rattle.mb_desk.specs.declared.requests.BasisWords.{BasisWords}
use Rattle.mb_desk.specs.declared.requests.ImportWords.{ImportWords}
use Rattle.mb_desk.specs.declared.requests.ModelWords.{ModelWords}
use Rattle.mb_desk.specs.declared.requests.Request.{Request}
use Rattle.mb_desk.specs.declared.requests.Request.TheVariants as requests
use Rattle.mb_kinds.proofs.ReadModels.{model_reads}
use Rattle.mb_registry.proofs.ReadDatasets.{dataset_sound}
use Rattle.mb_registry.specs.Bodies.{basis_body, basis_text, dataset_body, model_body}
use Rattle.mb_registry.specs.Looking.{basis_named, dataset_named, model_named}
use Rattle.mb_registry.specs.Records.{OfAnalysis, OfBasis, OfDataset, OfModel}
use Rattle.mb_registry.specs.Removing.{removed_of}
use Rattle.mb_registry.specs.declared.kinds.Kind.{Kind}
use Rattle.mb_registry.specs.declared.kinds.Kind.TheVariants.{Analysis, Basis, Dataset, Model}
use Rattle.mb_reports.specs.RingTable.{ring_table_of}
use Rattle.mb_rings.specs.Walk.{most_tables}
use Rattle.mb_text.proofs.RecordSteps.{stepped}
use Rattle.mb_text.specs.Name.{IsName}

module _ (w : World) (plan : Plan) (sound : AreSound w.rows) where
  -- the rows after the plan are sound
  abbrev Keeps : Type 0
  Keeps = AreSound (changed plan.change w).rows

  -- `dataset`: the text of the file says a dataset within the limits
  dataset_keeps : (name file : List ℕ) → IsName name → dataset_plan name file w ≡ Ok plan → Keeps
  dataset_keeps name file named e =
      let a = stepped (dataset_file file w.files) (keeps_dataset name w) plan e in
      let b = stepped (body_of 1 (get w.files file)) dataset_text a.0 a.1 in
      kept_sound name (OfDataset a.0) (cells_line a.0) w plan named
      (dataset_sound b.0 a.0 (or_ok data_refusal (dataset_of b.0) a.0 b.2)) tt sound tt a.2

  -- `model`: the model file says a model with the cells of the dataset that was looked up
  model_keeps : (words : ModelWords) → IsName words.name → model_plan words w ≡ Ok plan → Keeps
  model_keeps words named e =
      let k = keeps_model words w plan e in
      let there = found_ok (dataset_named words.dataset) w.rows k.table k.dataset in
      let read = model_reads k.texts.0 k.texts.1 k.table k.model k.read in
      kept_sound words.name (OfModel words.dataset k.model) (margins_line (k.model).matrix) w plan
      named
      (record {
        named = looked_named Dataset dataset_body words.dataset w.rows k.table sound there;
        sound = read.sound;
        fits = read.fits;
      })
      tt sound (record { table = k.table; there = there; cells = read.many }) k.keeps

  -- `basis`: the certificate of the run is a valid one of the model that was looked up
  basis_keeps : (words : BasisWords) → IsName words.name →
      ((completion : Completion) → completed_named words w.rows ≡ Ok completion →
      AreParts completion.certificate) →
      basis_plan words w.rows ≡ Ok plan → Keeps
  basis_keeps words named said e =
      let a =
      stepped (completed_named words w.rows) (λ completion.
      kept_plan Basis words.name (Some (Model, words.model))
      (basis_text words.model completion.certificate) (completion_lines completion) w.rows)
      plan e in
      let is = is_completed words w.rows a.0 a.1 in
      let there = found_ok (model_named words.model) w.rows (is.dataset, is.model) is.there in
      kept_sound words.name (OfBasis words.model (a.0).certificate) (completion_lines a.0) w plan
      named (
        looked_named Model model_body words.model w.rows (is.dataset, is.model) sound there,
        said a.0 a.1,
      )
      tt sound
      (record {
        dataset = is.dataset;
        model = is.model;
        there = there;
        matrix = is.made.matrix_is;
        valid = is.made.valid;
      })
      a.2

  -- `import`: the certificate beside the moves is valid, and has the matrix of the named one, which
  -- fits its model
  import_keeps : (words : ImportWords) → IsName words.name → CanBeSaid (requests.Import words) w →
      import_plan words w ≡ Ok plan → Keeps
  import_keeps words named said e =
      let a =
      stepped (moves_file words.moves w.files) (λ moves. import_added words moves w.rows) plan e in
      let b =
      stepped (imported words a.0 w.rows) (λ proved. import_kept words.name proved w.rows) plan
      a.2 in
      let model = (b.0).0 in
      let new = (b.0).1 in
      let is = is_imported words a.0 w b.0 b.1 in
      let before =
      basis_sound w.rows words.basis model is.named sound
      (found_ok (basis_named words.basis) w.rows (model, is.named) is.found_there) in
      kept_sound words.name (OfBasis model new) (certificate_lines new) w plan named
      (is.of_model, said a.0 a.1 model new b.1) tt sound
      (beside_sound w.rows model is.named new before
      (ap (λ (c : Certificate). c.matrix) is.beside.made) is.valid_new)
      b.2

  -- `analyse`: the report is on the exact test of the records that were looked up
  analyse_keeps : (words : AnalyseWords) → IsName words.name → words.limit ≤ most_tables →
      analyse_plan words w.rows ≡ Ok plan → Keeps
  analyse_keeps words named limit e =
      let a =
      stepped (report_named words w.rows) (λ report.
      kept_plan Analysis words.name (Some (Basis, words.basis)) report report w.rows) plan e in
      let is = is_analysed words w.rows a.0 a.1 in
      let records = is.records in
      let linked = records_linked w.rows words.basis records is.named in
      let dataset = dataset_is w.rows records.dataset_name records.dataset linked.dataset_there in
      let model =
      model_is w.rows records.model_name records.dataset_name records.model linked.model_there in
      kept_sound words.name (OfAnalysis (made_report words w.rows a.0 is)) a.0 w plan named (
        made_is_report words w.rows a.0 is named
            (looked_named Basis basis_body words.basis w.rows _ sound linked.basis_there)
            (looked_named Model model_body records.model_name w.rows _ sound linked.model_there)
            (looked_named Dataset dataset_body records.dataset_name w.rows _ sound
            linked.dataset_there)
            dataset model.sound,
        made_fits words w.rows a.0 is dataset limit,
      )
      (made_few words w.rows a.0 is limit) sound (made_sound words w.rows a.0 is)
      (subst (λ text. kept_plan Analysis words.name (Some (Basis, words.basis)) text a.0 w.rows
      ≡ Ok plan) is.text a.2)

  -- `remove`: no other record refers to the one that is taken out
  remove_keeps : (kind : Kind) (name : List ℕ) → remove_plan kind name w.rows ≡ Ok plan → Keeps
  remove_keeps kind name e =
      let a = stepped (removable kind name w.rows) (λ done. Ok (removing kind name)) plan e in
      decided_keeps w (removing kind name) plan
      (removed_sound kind name w.rows sound
      (or_ok (change_refusal kind name) (removed_of kind name w.rows) a.0 a.1)) a.2

-- the rows after the plan of a request are sound
pub plan_keeps : (request : Request) (w : World) (plan : Plan) → IsRequest request →
    CanBeSaid request w → AreSound w.rows → plan_of request w ≡ Ok plan →
    AreSound (changed plan.change w).rows
plan_keeps (requests.Moves words) w plan is said sound e =
    let a = stepped (moves_count words w.files) (λ count. Ok (answers (moves_line count))) plan e in
    decided_keeps w (answers (moves_line a.0)) plan sound a.2
plan_keeps (requests.Reach words) w plan is said sound e =
    let a = stepped (reach_rings words w.files)
    (λ rings. Ok (answers (ring_table_of rings))) plan e in
    decided_keeps w (answers (ring_table_of a.0)) plan sound a.2
plan_keeps (requests.Check name) w plan is said sound e =
    let a = stepped (checked name w.files) (λ c. Ok (answers (joins_line c))) plan e in
    decided_keeps w (answers (joins_line a.0)) plan sound a.2
plan_keeps (requests.Generate seed workers) w plan is said sound e =
    let a = stepped (generated seed) (λ p. Ok (answers (generated_lines seed p))) plan e in
    decided_keeps w (answers (generated_lines seed a.0)) plan sound a.2
plan_keeps (requests.Dataset name file) w plan is said sound e =
    dataset_keeps w plan sound name file is e
plan_keeps (requests.Model words) w plan is said sound e = model_keeps w plan sound words is e
plan_keeps (requests.Basis words) w plan is said sound e =
    basis_keeps w plan sound words is said e
plan_keeps (requests.Import words) w plan is said sound e =
    import_keeps w plan sound words is said e
plan_keeps (requests.Analyse words) w plan is said sound e =
    analyse_keeps w plan sound words is.0 is.1 e
plan_keeps (requests.Report name) w plan is said sound e =
    let a = stepped (printed_report name w.rows) (λ text. Ok (answers text)) plan e in
    decided_keeps w (answers a.0) plan sound a.2
plan_keeps requests.List w plan is said sound e =
    let a = stepped (printed_list w.rows) (λ text. Ok (answers text)) plan e in
    decided_keeps w (answers a.0) plan sound a.2
plan_keeps (requests.Export part name file) w plan is said sound e =
    let a = stepped (exported part name w.rows) (λ body. Ok (writing part name file body)) plan e in
    decided_keeps w (writing part name file a.0) plan sound a.2
plan_keeps (requests.Remove kind name) w plan is said sound e =
    remove_keeps w plan sound kind name e
