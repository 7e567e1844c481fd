-- A request that kept a record may be repeated while all rows and files stand.
use Rattle.std.proofs.Common.{List, None, Ok, Option, Some, ap, refl, subst, sym, ℕ, ◌∙◌, ◌≡◌}
use Rattle.std.specs.FinMap.{get}
use Rattle.std.specs.Prelude.{IsSome}
use Rattle.mb_certificate.specs.Certificate.{Certificate}
use Rattle.mb_data.specs.Written.{written}
use Rattle.mb_desk.proofs.Fitting.{or_ok}
use Rattle.mb_desk.proofs.Inversions.{body_there}
use Rattle.mb_desk.proofs.KeptRecords.{WasBefore, added_means, kept_before}
use Rattle.mb_desk.proofs.Standing.{found_stands, records_stand, stand_inserted}
use Rattle.mb_desk.specs.AnalyseCommand.{analyse_plan, records_named, report_named, reported}
use Rattle.mb_desk.specs.BasisCommand.{basis_plan, certificate_lines, completed_named, completion_lines}
use Rattle.mb_desk.specs.Changes.{changed}
use Rattle.mb_desk.specs.Completing.{completed}
use Rattle.mb_desk.specs.DatasetCommand.{cells_line, dataset_file, dataset_plan, dataset_text}
use Rattle.mb_desk.specs.Decision.{Decided, or_refusal}
use Rattle.mb_desk.specs.ImportCommand.{checked_beside, import_added, import_kept, import_plan, imported, moves_file}
use Rattle.mb_desk.specs.Inputs.{accepted, body_of}
use Rattle.mb_desk.specs.ModelCommand.{margins_line, model_added, model_kept, model_plan, model_read, model_text, model_texts, second_text}
use Rattle.mb_desk.specs.Recorded.{added_plan, added_to, change_refusal, found, kept_plan}
use Rattle.mb_desk.specs.SoundLaws.{FilesStand, IsRepeat, RepeatsAreUnchanged, RowsStand}
use Rattle.mb_desk.specs.World.{World}
use Rattle.mb_desk.specs.declared.plans.Plan.{Plan}
use Rattle.mb_desk.specs.declared.requests.AnalyseWords.{AnalyseWords}
use Rattle.mb_desk.specs.declared.requests.BasisWords.{BasisWords}
use Rattle.mb_desk.specs.declared.requests.ImportWords.{ImportWords}
use Rattle.mb_desk.specs.declared.requests.ModelWords.{ModelWords}
use Rattle.mb_desk.specs.declared.requests.Request.TheVariants as requests
use Rattle.mb_kinds.specs.Model.{ModelValue}
use Rattle.mb_kinds.specs.Record.{written_record}
use Rattle.mb_moves.specs.GridText.{moves_of}
use Rattle.mb_outside.specs.Files.{Held}
use Rattle.mb_outside.specs.Rows.{Rows}
use Rattle.mb_registry.proofs.OrderlySteps.{refers_there}
use Rattle.mb_registry.proofs.Repeats.{kept_unchanged}
use Rattle.mb_registry.specs.Adding.{added_of, beside_kept, refers}
use Rattle.mb_registry.specs.Bodies.{basis_body, basis_text, dataset_body, model_body, model_record}
use Rattle.mb_registry.specs.Kinds.{key_of}
use Rattle.mb_registry.specs.Looking.{basis_named, dataset_named, model_named}
use Rattle.mb_registry.specs.Orderly.{IsThere}
use Rattle.mb_registry.specs.declared.adding.Added.{Added}
use Rattle.mb_registry.specs.declared.adding.Added.TheVariants.{Stored, Unchanged}
use Rattle.mb_registry.specs.declared.kinds.Kind.{Kind}
use Rattle.mb_registry.specs.declared.kinds.Kind.TheVariants.{Analysis, Basis, Dataset, Model}
use Rattle.mb_tables.specs.Answers.{◌>>=◌}
use Rattle.mb_text.proofs.RecordSteps.{stepped}

-- a step that goes on, and what goes on after it
both_ok : {A B : Type 0} (step : Decided A) (x : A) (next : A → Decided B) (y : B) →
    step ≡ Ok x → next x ≡ Ok y → (step >>= next) ≡ Ok y
both_ok {A} step x next y e f = ap (λ (d : Decided A). d >>= next) e ∙ f

-- ---- records that are kept again

-- all rows stand after a record was kept
added_stands : (kind : Kind) (name body lines : List ℕ) (w : World) (added : Added) →
    WasBefore body (get w.rows (key_of kind name)) added →
    RowsStand w.rows (changed (added_plan kind name body lines added).change w).rows
added_stands kind name body lines w Stored none =
    stand_inserted w.rows (key_of kind name) body none
added_stands kind name body lines w Unchanged same = λ key old there. there

-- a reference that is there is so in all rows in which these stand
there_stands : (reference : Option (Kind × List ℕ)) (before after : Rows) →
    RowsStand before after → IsThere reference before → IsThere reference after
there_stands None before after stand there = tt
there_stands (Some reference) before after stand there =
    by (get before (key_of reference.0 reference.1)) refl there
  where
    by : (old : Option (List ℕ)) → get before (key_of reference.0 reference.1) ≡ old →
        IsSome old → IsSome (get after (key_of reference.0 reference.1))
    by None e there = absurd (cc there)
    by (Some body) e there =
        subst IsSome (sym (stand (key_of reference.0 reference.1) body e)) refl

-- a record is kept again over later rows, in which all rows before stand
record IsKeptAgain (kind : Kind) (name : List ℕ) (reference : Option (Kind × List ℕ))
    (body lines : List ℕ) (w v : World) (plan : Plan) : Type 0 where
  stand : RowsStand w.rows v.rows
  again : Plan
  kept : kept_plan kind name reference body lines v.rows ≡ Ok again
  repeats : IsRepeat plan again

added_again : (kind : Kind) (name : List ℕ) (reference : Option (Kind × List ℕ))
    (body lines : List ℕ) (w v : World) (added : Added) →
    added_to kind name reference body w.rows ≡ Ok added →
    RowsStand (changed (added_plan kind name body lines added).change w).rows v.rows →
    IsKeptAgain kind name reference body lines w v (added_plan kind name body lines added)
unfolding added_to
added_again kind name reference body lines w v added e later =
    let before = kept_before kind name reference body w.rows added e in
    let a =
    stepped (refers reference w.rows)
    (λ there. beside_kept body (get w.rows (key_of kind name))) added
    (or_ok (change_refusal kind name) (added_of kind name reference body w.rows) added e) in
    let stand : RowsStand w.rows v.rows = λ key old there.
    later key old (added_stands kind name body lines w added before key old there) in
    let there =
    there_stands reference w.rows v.rows stand (refers_there reference w.rows a.0 a.1) in
    let held =
    later (key_of kind name) body (added_means kind name body lines w added before).there in
    let says : added_to kind name reference body v.rows ≡ Ok Unchanged =
    ap (or_refusal (change_refusal kind name))
    (kept_unchanged kind name reference body v.rows there held) in
    record {
      stand = stand;
      again = added_plan kind name body lines Unchanged;
      kept = ap (λ (d : Decided Added). d >>= λ added.
          Ok (added_plan kind name body lines added)) says;
      repeats = record {
        added = added;
        kind = kind;
        name = name;
        lines = lines;
        answered = refl;
        repeated = refl;
      };
    }

kept_again : (kind : Kind) (name : List ℕ) (reference : Option (Kind × List ℕ))
    (body lines : List ℕ) (w v : World) (plan : Plan) →
    kept_plan kind name reference body lines w.rows ≡ Ok plan →
    RowsStand (changed plan.change w).rows v.rows →
    IsKeptAgain kind name reference body lines w v plan
kept_again kind name reference body lines w v plan e =
    let a =
    stepped (added_to kind name reference body w.rows)
    (λ added. Ok (added_plan kind name body lines added)) plan e in
    let same : added_plan kind name body lines a.0 ≡ plan = cc in
    subst (λ (p : Plan). RowsStand (changed p.change w).rows v.rows →
    IsKeptAgain kind name reference body lines w v p) same
    (added_again kind name reference body lines w v a.0 a.1)

-- ---- files that are read again

-- a file that was read is read in all files in which these stand
file_again : (number : ℕ) (file : List ℕ) (before after : Held) (body : List ℕ) →
    FilesStand before after → body_of number (get before file) ≡ Ok body →
    body_of number (get after file) ≡ Ok body
file_again number file before after body stand e =
    let there = body_there number (get before file) body e in
    ap (body_of number) (stand file body there ∙ sym there) ∙ e

-- so are a file that may be named
second_again : (named : Option (List ℕ)) (before after : Held) (text : Option (List ℕ)) →
    FilesStand before after → second_text named before ≡ Ok text →
    second_text named after ≡ Ok text
second_again None before after text stand e = e
second_again (Some file) before after text stand e =
    let a = stepped (body_of 2 (get before file)) (λ body. Ok (Some body)) text e in
    both_ok (body_of 2 (get after file)) a.0 (λ body. Ok (Some body)) text
    (file_again 2 file before after a.0 stand a.1) a.2

-- and the files of `model`
texts_again : (words : ModelWords) (before after : Held) (texts : List ℕ × Option (List ℕ)) →
    FilesStand before after → model_texts words before ≡ Ok texts →
    model_texts words after ≡ Ok texts
texts_again words before after texts stand e =
    let a =
    stepped (body_of 1 (get before words.file))
    (λ text. second_text words.matrix before >>= λ matrix. Ok (text, matrix)) texts e in
    let b = stepped (second_text words.matrix before) (λ matrix. Ok (a.0, matrix)) texts a.2 in
    both_ok (body_of 1 (get after words.file)) a.0
    (λ text. second_text words.matrix after >>= λ matrix. Ok (text, matrix)) texts
    (file_again 1 words.file before after a.0 stand a.1)
    (both_ok (second_text words.matrix after) b.0 (λ matrix. Ok (a.0, matrix)) texts
    (second_again words.matrix before after b.0 stand b.1) b.2)

-- ---- commands that are repeated

-- what is decided is a repeat
abbrev IsRepeated : Decided Plan → Plan → Type 0
IsRepeated decided first = (again : Plan) × (decided ≡ Ok again) × IsRepeat first again

-- each of the commands that keep a record may be repeated
module _ (w v : World) (plan : Plan) (files : FilesStand w.files v.files)
    (later : RowsStand (changed plan.change w).rows v.rows) where
  dataset_again : (name file : List ℕ) → dataset_plan name file w ≡ Ok plan →
      IsRepeated (dataset_plan name file v) plan
  dataset_again name file e =
      let a =
      stepped (dataset_file file w.files)
      (λ table. kept_plan Dataset name None (written table) (cells_line table) w.rows) plan e in
      let b = stepped (body_of 1 (get w.files file)) dataset_text a.0 a.1 in
      let k = kept_again Dataset name None (written a.0) (cells_line a.0) w v plan a.2 later in
      let read =
      both_ok (body_of 1 (get v.files file)) b.0 dataset_text a.0
      (file_again 1 file w.files v.files b.0 files b.1) b.2 in (
        k.again,
        both_ok (dataset_file file v.files) a.0
            (λ table. kept_plan Dataset name None (written table) (cells_line table) v.rows)
            k.again read k.kept,
        k.repeats,
      )

  model_again : (words : ModelWords) → model_plan words w ≡ Ok plan →
      IsRepeated (model_plan words v) plan
  model_again words e =
      let a =
      stepped (model_texts words w.files) (λ texts. model_added words texts w.rows) plan e in
      let b =
      stepped (model_read words.dataset a.0 w.rows)
      (λ model. model_kept words.name words.dataset model w.rows) plan a.2 in
      let t =
      stepped (found (dataset_named words.dataset) w.rows) (λ table. model_text a.0 table) b.0
      b.1 in
      let k =
      kept_again Model words.name (Some (Dataset, words.dataset))
      (written_record (model_record words.dataset b.0)) (margins_line (b.0).matrix) w v plan b.2
      later in
      let read =
      both_ok (found (dataset_named words.dataset) v.rows) t.0 (λ table. model_text a.0 table) b.0
      (found_stands Dataset dataset_body words.dataset w.rows v.rows t.0 k.stand t.1) t.2 in (
        k.again,
        both_ok (model_texts words v.files) a.0 (λ texts. model_added words texts v.rows) k.again
            (texts_again words w.files v.files a.0 files a.1)
            (both_ok (model_read words.dataset a.0 v.rows) b.0
            (λ model. model_kept words.name words.dataset model v.rows) k.again read k.kept),
        k.repeats,
      )

  basis_again : (words : BasisWords) → basis_plan words w.rows ≡ Ok plan →
      IsRepeated (basis_plan words v.rows) plan
  basis_again words e =
      let a =
      stepped (completed_named words w.rows) (λ completion.
      kept_plan Basis words.name (Some (Model, words.model))
      (basis_text words.model completion.certificate) (completion_lines completion) w.rows)
      plan e in
      let b =
      stepped (found (model_named words.model) w.rows)
      (λ (model : List ℕ × ModelValue). completed model.1.matrix words.order words.looks)
      a.0 a.1 in
      let k =
      kept_again Basis words.name (Some (Model, words.model))
      (basis_text words.model (a.0).certificate) (completion_lines a.0) w v plan a.2 later in
      let made =
      both_ok (found (model_named words.model) v.rows) b.0
      (λ (model : List ℕ × ModelValue). completed model.1.matrix words.order words.looks) a.0
      (found_stands Model model_body words.model w.rows v.rows b.0 k.stand b.1) b.2 in (
        k.again,
        both_ok (completed_named words v.rows) a.0 (λ completion.
            kept_plan Basis words.name (Some (Model, words.model))
            (basis_text words.model completion.certificate) (completion_lines completion) v.rows)
            k.again made k.kept,
        k.repeats,
      )

  import_again : (words : ImportWords) → import_plan words w ≡ Ok plan →
      IsRepeated (import_plan words v) plan
  import_again words e =
      let a =
      stepped (moves_file words.moves w.files) (λ moves. import_added words moves w.rows) plan e in
      let t =
      stepped (body_of 1 (get w.files words.moves)) (λ text. accepted 1 (moves_of text)) a.0
      a.1 in
      let b =
      stepped (imported words a.0 w.rows) (λ proved. import_kept words.name proved w.rows) plan
      a.2 in
      let c =
      stepped (found (basis_named words.basis) w.rows) (λ (proved : List ℕ × Certificate).
      checked_beside words.limit a.0 proved.1 >>= λ new. Ok (proved.0, new)) b.0 b.1 in
      let k =
      kept_again Basis words.name (Some (Model, (b.0).0)) (basis_text (b.0).0 (b.0).1)
      (certificate_lines (b.0).1) w v plan b.2 later in
      let read =
      both_ok (body_of 1 (get v.files words.moves)) t.0 (λ text. accepted 1 (moves_of text)) a.0
      (file_again 1 words.moves w.files v.files t.0 files t.1) t.2 in
      let made =
      both_ok (found (basis_named words.basis) v.rows) c.0 (λ (proved : List ℕ × Certificate).
      checked_beside words.limit a.0 proved.1 >>= λ new. Ok (proved.0, new)) b.0
      (found_stands Basis basis_body words.basis w.rows v.rows c.0 k.stand c.1) c.2 in (
        k.again,
        both_ok (moves_file words.moves v.files) a.0 (λ moves. import_added words moves v.rows)
            k.again read
            (both_ok (imported words a.0 v.rows) b.0
            (λ proved. import_kept words.name proved v.rows) k.again made k.kept),
        k.repeats,
      )

  analyse_again : (words : AnalyseWords) → analyse_plan words w.rows ≡ Ok plan →
      IsRepeated (analyse_plan words v.rows) plan
  analyse_again words e =
      let a =
      stepped (report_named words w.rows) (λ report.
      kept_plan Analysis words.name (Some (Basis, words.basis)) report report w.rows) plan e in
      let b = stepped (records_named words.basis w.rows) (reported words) a.0 a.1 in
      let k =
      kept_again Analysis words.name (Some (Basis, words.basis)) a.0 a.0 w v plan a.2 later in
      let made =
      both_ok (records_named words.basis v.rows) b.0 (reported words) a.0
      (records_stand words.basis w.rows v.rows b.0 k.stand b.1) b.2 in (
        k.again,
        both_ok (report_named words v.rows) a.0 (λ report.
            kept_plan Analysis words.name (Some (Basis, words.basis)) report report v.rows)
            k.again made k.kept,
        k.repeats,
      )

-- the law of repeated requests
pub repeats_are_unchanged : RepeatsAreUnchanged
repeats_are_unchanged (requests.Moves words) w v plan keeps e files later = absurd keeps
repeats_are_unchanged (requests.Reach words) w v plan keeps e files later = absurd keeps
repeats_are_unchanged (requests.Check certificate) w v plan keeps e files later = absurd keeps
repeats_are_unchanged (requests.Generate seed workers) w v plan keeps e files later = absurd keeps
repeats_are_unchanged (requests.Dataset name file) w v plan keeps e files later =
    dataset_again w v plan files later name file e
repeats_are_unchanged (requests.Model words) w v plan keeps e files later =
    model_again w v plan files later words e
repeats_are_unchanged (requests.Basis words) w v plan keeps e files later =
    basis_again w v plan files later words e
repeats_are_unchanged (requests.Import words) w v plan keeps e files later =
    import_again w v plan files later words e
repeats_are_unchanged (requests.Analyse words) w v plan keeps e files later =
    analyse_again w v plan files later words e
repeats_are_unchanged (requests.Report name) w v plan keeps e files later = absurd keeps
repeats_are_unchanged requests.List w v plan keeps e files later = absurd keeps
repeats_are_unchanged (requests.Export part name file) w v plan keeps e files later = absurd keeps
repeats_are_unchanged (requests.Remove kind name) w v plan keeps e files later = absurd keeps
