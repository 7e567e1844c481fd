-- Over sound rows no request is refused for a record that is none, and none but `check` for a line
-- of a certificate.
use Rattle.std.proofs.Common.{Bool, Err, List, None, Ok, Option, Some, ap, cond, false, inl, inr, length, nat_eq, refl, subst, sym, true, ℕ, ◌∙◌, ◌≡◌, ◌⊎◌}
use Rattle.std.proofs.lemmas.Bool.{eq-eqb}
use Rattle.std.specs.Option.{ok_or, option_map}
use Rattle.mb_certificate.proofs.NoFaults.{none-valid}
use Rattle.mb_certificate.specs.Certificate.{Certificate}
use Rattle.mb_certificate.specs.FirstFault.{first_fault}
use Rattle.mb_certificate.specs.declared.line_fault.Fault.{Fault}
use Rattle.mb_certificate.specs.declared.line_fault.Reason.{Reason}
use Rattle.mb_data.specs.CrossTable.{CrossTable, counts}
use Rattle.mb_data.specs.Written as datasets
use Rattle.mb_desk.proofs.AnalysedRecords.{of_parts}
use Rattle.mb_desk.proofs.CompletedModels.{judged-right}
use Rattle.mb_desk.proofs.FreeSteps.{Never, added_free, beside_free, check_free, completed_free, count_free, dataset_free, for_kept, for_line, for_record, generated_free, model_free, moves_free, never_made, never_is, never_line, never_or, never_record, never_then, reach_free, tested_free, texts_free}
use Rattle.mb_desk.proofs.KeptRecords.{found_ok, kept_as_is}
use Rattle.mb_desk.proofs.LinkedRecords.{found_is, records_linked}
use Rattle.mb_desk.proofs.SameMatrices.{same-decides}
use Rattle.mb_desk.proofs.SoundRecords.{basis_sound}
use Rattle.mb_desk.proofs.Standing.{kept_as_there}
use Rattle.mb_desk.proofs.StoredInversions.{has_basis}
use Rattle.mb_desk.specs.AnalyseCommand.{modelled, of_one_matrix, of_one_size, records_named, records_tested, report_named, report_of, reported, same_design}
use Rattle.mb_desk.specs.BasisCommand.{certificate_lines, completed_named, completion_lines}
use Rattle.mb_desk.specs.CheckCommand.{checked, joins_line, judged}
use Rattle.mb_desk.specs.Commands.{plan_of}
use Rattle.mb_desk.specs.Completing.{completed}
use Rattle.mb_desk.specs.DatasetCommand.{cells_line, dataset_file}
use Rattle.mb_desk.specs.ExactTest.{accepted, numbers_of, tested}
use Rattle.mb_desk.specs.ExportCommand.{certificate_part, exported, exported_basis, writing}
use Rattle.mb_desk.specs.GenerateCommand.{generated, generated_lines, numbers_refusal}
use Rattle.mb_desk.specs.ImportCommand.{beside_of, checked_beside, import_added, import_kept, imported, moves_file}
use Rattle.mb_desk.specs.ListCommand.{printed_list}
use Rattle.mb_desk.specs.ModelCommand.{margins_line, model_added, model_kept, model_read, model_text, model_texts}
use Rattle.mb_desk.specs.MovesCommand.{moves_count, moves_line}
use Rattle.mb_desk.specs.Plans.{answers}
use Rattle.mb_desk.specs.ReachCommand.{reach_rings}
use Rattle.mb_desk.specs.Recorded.{change_refusal, found, kept_plan, look_refusal}
use Rattle.mb_desk.specs.RemoveCommand.{removable, removing}
use Rattle.mb_desk.specs.ReportCommand.{printed_report}
use Rattle.mb_desk.specs.Sound.{AreSound, IsSoundModel}
use Rattle.mb_desk.specs.SoundLaws.{IsCheck, SoundIsNotRefused}
use Rattle.mb_desk.specs.World.{World}
use Rattle.mb_desk.specs.declared.commands.analyse.Records.{Records}
use Rattle.mb_desk.specs.declared.parts.Part.{Part}
use Rattle.mb_desk.specs.declared.parts.Part.TheVariants as parts
use Rattle.mb_desk.specs.declared.refusals.Refusal.{Refusal}
use Rattle.mb_desk.specs.declared.refusals.Refusal.TheVariants as refusals
use Rattle.mb_desk.specs.declared.requests.AnalyseWords.{AnalyseWords}
use Rattle.mb_desk.specs.declared.requests.BasisWords.{BasisWords}
use Rattle.mb_desk.specs.declared.requests.ImportWords.{ImportWords}
use Rattle.mb_desk.specs.declared.requests.Request.{Request}
use Rattle.mb_desk.specs.declared.requests.Request.TheVariants as requests
use Rattle.mb_kinds.specs.Model.{ModelValue}
use Rattle.mb_kinds.specs.Record.{written_record}
use Rattle.mb_moves.specs.Written.{matrix_file}
use Rattle.mb_outside.specs.Rows.{Rows}
use Rattle.mb_registry.proofs.OrderlyRows.{IsNotBad, kept_not_bad, kept_there, known_row, listed_not_bad, removed_not_bad, then_not_bad}
use Rattle.mb_registry.specs.Bodies.{analysis_body, basis_body, basis_text, dataset_body, model_body, model_record, record_of}
use Rattle.mb_registry.specs.Faults.{Answer}
use Rattle.mb_registry.specs.Listing.{list_text, listed_of}
use Rattle.mb_registry.specs.Looking.{analysis_named, basis_named, dataset_named, kept, kept_as, model_named}
use Rattle.mb_registry.specs.Orderly.{AreOrderly}
use Rattle.mb_registry.specs.Records.{OfAnalysis, OfBasis, OfDataset, OfModel, RecordValue}
use Rattle.mb_registry.specs.Removing.{removed_of}
use Rattle.mb_registry.specs.declared.fault.RegistryFault.TheVariants as faults
use Rattle.mb_registry.specs.declared.kinds.Kind.{Kind}
use Rattle.mb_registry.specs.declared.kinds.Kind.TheVariants.{Analysis, Basis, Dataset, Model}
use Rattle.mb_reports.specs.Report.{report_text}
use Rattle.mb_reports.specs.RingTable.{ring_table_of}
use Rattle.mb_tables.specs.Answers.{◌>>=◌}
use Rattle.mb_tables.specs.Rows as tables

-- ---- look-ups

-- a look-up that meets no bad record is refused for none
look_free : {A : Type 0} (answer : Answer A) → IsNotBad answer →
    Never (λ fault. for_kept (look_refusal fault)) answer
look_free (Ok x) never = tt
look_free (Err (faults.Unknown kind name)) never = refl
look_free (Err (faults.BadRecord kind name)) never = absurd (never kind name refl)
look_free (Err (faults.InUse by)) never = refl
look_free (Err (faults.Conflict kept)) never = refl
look_free (Err faults.Keeper) never = refl
look_free (Err faults.OutOfMemory) never = refl

-- nor is a removal
change_free : {A : Type 0} (kind : Kind) (name : List ℕ) (answer : Answer A) → IsNotBad answer →
    Never (λ fault. for_kept (change_refusal kind name fault)) answer
change_free kind name (Ok x) never = tt
change_free kind name (Err (faults.Unknown missing text)) never = refl
change_free kind name (Err (faults.BadRecord bad text)) never = absurd (never bad text refl)
change_free kind name (Err (faults.InUse by)) never = refl
change_free kind name (Err (faults.Conflict kept)) never = refl
change_free kind name (Err faults.Keeper) never = refl
change_free kind name (Err faults.OutOfMemory) never = refl

-- what is read as a record is read
mapped_not_bad : {A : Type 0} (kind : Kind) (name : List ℕ) (wrap : A → RecordValue)
    (read : Option A) (entry : RecordValue) → option_map wrap read ≡ Some entry →
    IsNotBad (ok_or read (faults.BadRecord kind name))
mapped_not_bad kind name wrap None entry there = absurd (cc there)
mapped_not_bad kind name wrap (Some x) entry there = λ asked bad e. absurd (cc e)

-- a look-up in orderly rows
named_free : {A : Type 0} (kind : Kind) (read : List ℕ → Option A) (wrap : A → RecordValue)
    (name : List ℕ) (rows : Rows) →
    ((body : List ℕ) → record_of kind body ≡ option_map wrap (read body)) → AreOrderly rows →
    Never for_kept (found (kept_as kind read name) rows)
named_free kind read wrap name rows same orderly =
    never_or for_kept look_refusal (kept_as kind read name rows)
    (look_free (kept_as kind read name rows)
    (then_not_bad (kept kind name rows) (λ body. ok_or (read body) (faults.BadRecord kind name))
    (kept_not_bad kind name rows)
    (λ body e.
    let known = known_row rows kind name body orderly (kept_there kind name rows body e) in
    mapped_not_bad kind name wrap (read body) known.entry (sym (same body) ∙ known.says))))

-- records of an analysis that fit each other, with a certificate that has no wrong line
record AreFitting (records : Records) : Type 0 where
  matrix : records.certificate.matrix ≡ records.model.matrix
  cells : length records.model.matrix.columns ≡ length (counts records.dataset.entries)
  right : first_fault records.certificate ≡ None

-- a test that passes
passed_free : (test : Bool) (refusal : Refusal) → test ≡ true →
    Never for_kept (cond test (Ok (tt {0})) (Err refusal))
passed_free true refusal passes = tt
passed_free false refusal passes = absurd (cc passes)

-- a certificate with no wrong line is accepted
accepted_none : (first : Option Fault) → first ≡ None →
    Never (λ fault. for_kept (numbers_refusal fault)) (accepted first)
accepted_none None none = tt
accepted_none (Some fault) none = absurd (cc none)

-- the report on records that fit each other
reported_free : (words : AnalyseWords) (records : Records) → AreFitting records →
    Never for_kept (reported words records)
reported_free words records fit =
    let c = records.certificate in
    let observed = counts records.dataset.entries in
    never_then for_kept (of_one_matrix words.basis records)
    (λ matrix. of_one_size records >>= λ cells. records_tested words.limit records >>= λ numbers.
    Ok (report_text (report_of words records numbers)))
    (passed_free (same_design c.matrix records.model.matrix) _
    ((same-decides c.matrix records.model.matrix).1 fit.matrix))
    (λ matrix e.
    never_then for_kept (of_one_size records) (λ cells. records_tested words.limit records >>=
    λ numbers. Ok (report_text (report_of words records numbers)))
    (passed_free (nat_eq (length records.model.matrix.columns) (length observed)) _
    (eq-eqb (length records.model.matrix.columns) (length observed) fit.cells))
    (λ cells f.
    never_made for_kept (records_tested words.limit records)
    (λ numbers. report_text (report_of words records numbers))
    (never_or for_kept numbers_refusal (numbers_of words.limit c records.model.measure observed)
    (never_then (λ fault. for_kept (numbers_refusal fault)) (accepted (first_fault c)) _
    (accepted_none (first_fault c) fit.right)
    (λ right g.
    never_made (λ fault. for_kept (numbers_refusal fault))
    (tested words.limit c.matrix records.model.measure observed) _
    (tested_free words.limit c.matrix records.model.measure observed))))))

module _ (rows : Rows) (sound : AreSound rows) where
  -- a dataset that is looked up
  dataset_look : (name : List ℕ) → Never for_kept (found (dataset_named name) rows)
  dataset_look name =
      named_free Dataset dataset_body OfDataset name rows (λ body. refl) sound.orderly

  -- a model
  model_look : (name : List ℕ) → Never for_kept (found (model_named name) rows)
  model_look name =
      named_free Model model_body (λ m. OfModel m.0 m.1) name rows (λ body. refl) sound.orderly

  -- a basis
  basis_look : (name : List ℕ) → Never for_kept (found (basis_named name) rows)
  basis_look name =
      named_free Basis basis_body (λ b. OfBasis b.0 b.1) name rows (λ body. refl) sound.orderly

  -- an analysis
  analysis_look : (name : List ℕ) → Never for_kept (found (analysis_named name) rows)
  analysis_look name =
      named_free Analysis analysis_body OfAnalysis name rows (λ body. refl) sound.orderly

  -- a model that is looked up has the cells of its dataset
  model_sound : (name dataset : List ℕ) (model : ModelValue) →
      model_named name rows ≡ Ok (dataset, model) → IsSoundModel rows dataset model
  model_sound name dataset model e =
      let a = kept_as_is Model model_body name rows (dataset, model) e in
      sound.each Model name (OfModel dataset model)
      (kept_as_there Model (record_of Model) name rows a.0 (OfModel dataset model) a.1
      (ap (λ (o : Option (List ℕ × ModelValue)). option_map (λ m. OfModel m.0 m.1) o) a.2))

  -- ---- basis and import

  -- the completion of a model that is looked up
  completion_free : (words : BasisWords) → Never for_kept (completed_named words rows)
  completion_free words =
      never_then for_kept (found (model_named words.model) rows)
      (λ model. completed model.1.matrix words.order words.looks) (model_look words.model)
      (λ model e. completed_free model.1.matrix words.order words.looks)

  -- a certificate that is right is judged right
  judged_free : (c : Certificate) → judged c ≡ Ok c → Never for_kept (judged c)
  judged_free c right = subst (Never for_kept) (sym right) tt

  -- moves beside the certificate of a basis that is looked up
  imported_free : (words : ImportWords) (moves : tables.Rows) →
      Never for_kept (imported words moves rows)
  imported_free words moves =
      never_then for_kept (found (basis_named words.basis) rows)
      (λ proved. checked_beside words.limit moves proved.1 >>= λ new. Ok (proved.0, new))
      (basis_look words.basis)
      (λ proved e.
      let read = (has_basis rows words.basis proved.0 proved.1 e).2 in
      let is = basis_sound rows words.basis proved.0 proved.1 sound
      (found_ok (basis_named words.basis) rows proved e) in
      never_then for_kept (checked_beside words.limit moves proved.1) (λ new. Ok (proved.0, new))
      (never_then for_kept (judged proved.1) (λ right. beside_of words.limit right moves)
      (judged_free proved.1 (judged-right proved.1 read.parts is.valid))
      (λ right f. beside_free words.limit right moves))
      (λ new f. tt))

  -- ---- analyse

  -- a model and its dataset
  modelled_free : (name : List ℕ) → Never for_kept (modelled name rows)
  modelled_free name =
      never_then for_kept (found (model_named name) rows)
      (λ model. found (dataset_named model.0) rows >>= λ dataset. Ok (model.0, model.1, dataset))
      (model_look name)
      (λ model e.
      never_then for_kept (found (dataset_named model.0) rows)
      (λ dataset. Ok (model.0, model.1, dataset)) (dataset_look model.0) (λ dataset f. tt))

  -- the records of an analysis
  records_free : (basis : List ℕ) → Never for_kept (records_named basis rows)
  records_free basis =
      never_then for_kept (found (basis_named basis) rows)
      (λ (proved : List ℕ × Certificate). modelled proved.0 rows >>= λ m. Ok (of_parts proved m))
      (basis_look basis)
      (λ proved e.
      never_made for_kept (modelled proved.0 rows) (of_parts proved) (modelled_free proved.0))

  -- records that were found fit each other
  records_fit : (basis : List ℕ) (records : Records) → records_named basis rows ≡ Ok records →
      AreFitting records
  records_fit basis records e =
      let linked = records_linked rows basis records e in
      let proved = basis_sound rows basis records.model_name records.certificate sound
      linked.basis_there in
      let model = model_sound records.model_name records.dataset_name records.model
      linked.model_there in
      let read = (has_basis rows basis records.model_name records.certificate
      (found_is (basis_named basis) rows _ linked.basis_there)).2 in
      let same_model : proved.model ≡ records.model =
      one_model proved.dataset records.dataset_name proved.model records.model
      (sym proved.there ∙ linked.model_there) in
      let same_table : model.table ≡ records.dataset =
      one_table model.table records.dataset (sym model.there ∙ linked.dataset_there) in
      record {
        matrix = proved.matrix ∙ ap (λ (m : ModelValue). m.matrix) same_model;
        cells = model.cells ∙ ap (λ (t : CrossTable). length (counts t.entries)) same_table;
        right = none-valid records.certificate read.parts proved.valid;
      }
    where
      one_model : (d e : List ℕ) (m n : ModelValue) →
          (let r : Answer (List ℕ × ModelValue) = Ok (d, m) in r) ≡ Ok (e, n) → m ≡ n
      one_model d e m n f =
          let both : ◌≡◌ {A = List ℕ × ModelValue} (d, m) (e, n) = cc in
          ap (λ (p : List ℕ × ModelValue). p.1) both

      one_table : (t u : CrossTable) → (let r : Answer CrossTable = Ok t in r) ≡ Ok u → t ≡ u
      one_table t u f = cc

  -- the report on them
  report_free : (words : AnalyseWords) → Never for_kept (report_named words rows)
  report_free words =
      never_then for_kept (records_named words.basis rows) (reported words)
      (records_free words.basis)
      (λ records e. reported_free words records (records_fit words.basis records e))

  -- ---- export

  -- what is written of a basis
  exported_basis_free : (part : Part) (name : List ℕ) →
      Never for_kept (exported_basis part name rows)
  exported_basis_free part name =
      never_made for_kept (found (basis_named name) rows) (λ basis. certificate_part part basis.1)
      (basis_look name)

  -- what is written of a record
  exported_free : (part : Part) (name : List ℕ) → Never for_kept (exported part name rows)
  exported_free parts.Dataset name =
      never_made for_kept (found (dataset_named name) rows) datasets.written (dataset_look name)
  exported_free parts.Matrix name =
      never_made for_kept (found (model_named name) rows) (λ model. matrix_file (model.1).matrix)
      (model_look name)
  exported_free parts.Moves name = exported_basis_free parts.Moves name
  exported_free parts.Certificate name = exported_basis_free parts.Certificate name
  exported_free parts.Rules name = exported_basis_free parts.Rules name

-- ---- each request

-- a request is the check of a file, or it is refused neither for a record nor for a line
plan_free : (request : Request) (w : World) → AreSound w.rows →
    IsCheck request ⊎ Never for_kept (plan_of request w)
plan_free (requests.Moves words) w sound =
    inr (never_made for_kept (moves_count words w.files) (λ count. answers (moves_line count))
    (count_free words w.files))
plan_free (requests.Reach words) w sound =
    inr (never_made for_kept (reach_rings words w.files) (λ rings. answers (ring_table_of rings))
    (reach_free words w.files))
plan_free (requests.Check certificate) w sound = inl (certificate, refl)
plan_free (requests.Generate seed workers) w sound =
    inr (never_made for_kept (generated seed) (λ p. answers (generated_lines seed p))
    (generated_free seed))
plan_free (requests.Dataset name file) w sound =
    inr (never_then for_kept (dataset_file file w.files)
    (λ table. kept_plan Dataset name None (datasets.written table) (cells_line table) w.rows)
    (dataset_free file w.files)
    (λ table e.
    added_free Dataset name None (datasets.written table) (cells_line table) w.rows))
plan_free (requests.Model words) w sound =
    inr (never_then for_kept (model_texts words w.files) (λ texts. model_added words texts w.rows)
    (texts_free words w.files)
    (λ texts e.
    never_then for_kept (model_read words.dataset texts w.rows)
    (λ model. model_kept words.name words.dataset model w.rows)
    (never_then for_kept (found (dataset_named words.dataset) w.rows) (model_text texts)
    (dataset_look w.rows sound words.dataset) (λ table f. model_free texts table))
    (λ model f.
    added_free Model words.name (Some (Dataset, words.dataset))
    (written_record (model_record words.dataset model)) (margins_line model.matrix) w.rows)))
plan_free (requests.Basis words) w sound =
    inr (never_then for_kept (completed_named words w.rows)
    (λ completion.
    kept_plan Basis words.name (Some (Model, words.model))
    (basis_text words.model completion.certificate) (completion_lines completion) w.rows)
    (completion_free w.rows sound words)
    (λ completion e.
    added_free Basis words.name (Some (Model, words.model))
    (basis_text words.model completion.certificate) (completion_lines completion) w.rows))
plan_free (requests.Import words) w sound =
    inr (never_then for_kept (moves_file words.moves w.files)
    (λ moves. import_added words moves w.rows) (moves_free words.moves w.files)
    (λ moves e.
    never_then for_kept (imported words moves w.rows)
    (λ proved. import_kept words.name proved w.rows) (imported_free w.rows sound words moves)
    (λ proved f.
    added_free Basis words.name (Some (Model, proved.0)) (basis_text proved.0 proved.1)
    (certificate_lines proved.1) w.rows)))
plan_free (requests.Analyse words) w sound =
    inr (never_then for_kept (report_named words w.rows)
    (λ report. kept_plan Analysis words.name (Some (Basis, words.basis)) report report w.rows)
    (report_free w.rows sound words)
    (λ report e.
    added_free Analysis words.name (Some (Basis, words.basis)) report report w.rows))
plan_free (requests.Report name) w sound =
    inr (never_made for_kept (printed_report name w.rows) answers
    (never_made for_kept (found (analysis_named name) w.rows) report_text
    (analysis_look w.rows sound name)))
plan_free requests.List w sound =
    inr (never_made for_kept (printed_list w.rows) answers
    (never_made for_kept (found listed_of w.rows) list_text
    (never_or for_kept look_refusal (listed_of w.rows)
    (look_free (listed_of w.rows) (listed_not_bad w.rows sound.orderly)))))
plan_free (requests.Export part name file) w sound =
    inr (never_made for_kept (exported part name w.rows) (writing part name file)
    (exported_free w.rows sound part name))
plan_free (requests.Remove kind name) w sound =
    inr (never_made for_kept (removable kind name w.rows) (λ done. removing kind name)
    (never_or for_kept (change_refusal kind name) (removed_of kind name w.rows)
    (change_free kind name (removed_of kind name w.rows)
    (removed_not_bad kind name w.rows sound.orderly))))

-- the check of a file is refused for no record
check_plan_free : (request : Request) (w : World) → IsCheck request →
    Never for_record (plan_of request w)
check_plan_free request w (certificate, is) =
    subst (λ (r : Request). Never for_record (plan_of r w)) (sym is)
    (never_made for_record (checked certificate w.files) (λ c. answers (joins_line c))
    (check_free certificate w.files))

-- the law of sound rows
pub sound_is_not_refused : SoundIsNotRefused
sound_is_not_refused = record {
  records = λ request w kind name sound. never_is for_record (plan_of request w)
      (refusals.BadRecord kind name) (by request w (plan_free request w sound)) refl;
  certificates = λ request w line reason sound e.
      line_by request w line reason e (plan_free request w sound);
}
  where
    by : (request : Request) (w : World) → IsCheck request ⊎ Never for_kept (plan_of request w) →
        Never for_record (plan_of request w)
    by request w (inl is) = check_plan_free request w is
    by request w (inr never) = never_record (plan_of request w) never

    line_by : (request : Request) (w : World) (line : ℕ) (reason : Reason) →
        plan_of request w ≡ Err (refusals.Certificate line reason) →
        IsCheck request ⊎ Never for_kept (plan_of request w) → IsCheck request
    line_by request w line reason e (inl is) = is
    line_by request w line reason e (inr never) =
        absurd (never_is for_line (plan_of request w) (refusals.Certificate line reason)
        (never_line (plan_of request w) never) refl e)
