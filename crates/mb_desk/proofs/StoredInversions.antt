-- What is known where the commands of records went through to their answers.
use Rattle.std.proofs.Common.{List, None, Ok, Option, Some, ap, cond, refl, subst, sym, ℕ, ◌∙◌, ◌≡◌}
use Rattle.std.proofs.lemmas.Cmp.{eq_by_cmp_equiv, nat_list_cmp_total}
use Rattle.std.specs.FinMap.{get, get-insert, get-remove, insert, remove}
use Rattle.mb_certificate.specs.Certificate.{Certificate}
use Rattle.mb_data.specs.CrossTable.{CrossTable}
use Rattle.mb_data.specs.DatasetText.{dataset_of}
use Rattle.mb_data.specs.Written.{written}
use Rattle.mb_desk.proofs.Fitting.{Fits, answers_fit, or_ok, plan_text}
use Rattle.mb_desk.proofs.Inversions.{body_there}
use Rattle.mb_desk.proofs.KeptRecords.{found_ok, kept_as_ok, kept_fits, kept_means, kept_ok}
use Rattle.mb_desk.specs.Changes.{changed}
use Rattle.mb_desk.specs.DatasetCommand.{cells_line, data_refusal, dataset_file, dataset_plan, dataset_text}
use Rattle.mb_desk.specs.Decision.{Decided}
use Rattle.mb_desk.specs.ExportCommand.{certificate_part, export_plan, exported, exported_basis, writing, wrote_line}
use Rattle.mb_desk.specs.Inputs.{body_of}
use Rattle.mb_desk.specs.ListCommand.{list_plan, printed_list}
use Rattle.mb_desk.specs.ModelCommand.{kind_refusal, margins_line, model_added, model_kept, model_plan, model_read, model_text, model_texts, second_text}
use Rattle.mb_desk.specs.Plans.{answers}
use Rattle.mb_desk.specs.Recorded.{change_refusal, found, kept_plan}
use Rattle.mb_desk.specs.RemoveCommand.{removable, remove_plan, removed_line, removing}
use Rattle.mb_desk.specs.ReportCommand.{printed_report, report_plan}
use Rattle.mb_desk.specs.StoredAnswers.{AnswersDataset, AnswersExport, AnswersList, AnswersModel, AnswersRemove, AnswersReport, HasDataset, HasModel, IsOfBasis, IsPartOf, MayHold}
use Rattle.mb_desk.specs.World.{World}
use Rattle.mb_desk.specs.declared.parts.Part.{Part}
use Rattle.mb_desk.specs.declared.parts.Part.TheVariants as parts
use Rattle.mb_desk.specs.declared.plans.Change.TheVariants.{Removes, Writes}
use Rattle.mb_desk.specs.declared.plans.Plan.{Plan}
use Rattle.mb_desk.specs.declared.requests.ModelWords.{ModelWords}
use Rattle.mb_kinds.proofs.ReadTexts.{record_read}
use Rattle.mb_kinds.specs.Kinds.{model_of}
use Rattle.mb_kinds.specs.Model.{ModelValue}
use Rattle.mb_kinds.specs.Record.{written_record}
use Rattle.mb_moves.specs.Written.{matrix_file}
use Rattle.mb_outside.proofs.KeptRows.{keys_total}
use Rattle.mb_outside.specs.Files.{Held}
use Rattle.mb_outside.specs.Rows.{Rows}
use Rattle.mb_registry.proofs.BasisTexts.{BasisRead, basis_back, ok_read}
use Rattle.mb_registry.proofs.RecordTexts.{dataset_back, model_back}
use Rattle.mb_registry.proofs.RowKeys.{same_itself}
use Rattle.mb_registry.specs.Bodies.{analysis_body, basis_body, dataset_body, model_body, model_record}
use Rattle.mb_registry.specs.Kinds.{key_of}
use Rattle.mb_registry.specs.Listing.{list_text, listed_of}
use Rattle.mb_registry.specs.Looking.{analysis_named, basis_named, dataset_named, kept, model_named}
use Rattle.mb_registry.specs.Records.{referring_kind}
use Rattle.mb_registry.specs.Removing.{removed_of, unused}
use Rattle.mb_registry.specs.declared.kinds.Kind.{Kind}
use Rattle.mb_registry.specs.declared.kinds.Kind.TheVariants.{Analysis, Basis, Dataset, Model}
use Rattle.mb_reports.proofs.ReportTexts.{report_back}
use Rattle.mb_reports.specs.Report.{report_text}
use Rattle.mb_reports.specs.ReportText.{report_of}
use Rattle.mb_tables.specs.Answers.{◌>>=◌}
use Rattle.mb_text.proofs.RecordSteps.{stepped}

-- ---- records that were found

-- a dataset that was found is kept in its written form
pub has_dataset : (rows : Rows) (name : List ℕ) (table : CrossTable) →
    found (dataset_named name) rows ≡ Ok table → HasDataset rows name table
has_dataset rows name table e =
    let a = kept_as_ok Dataset dataset_body name rows table e in
    a.1 ∙ ap Some (dataset_back a.0 table a.2).1

-- so is a model
pub has_model : (rows : Rows) (name dataset : List ℕ) (model : ModelValue) →
    found (model_named name) rows ≡ Ok (dataset, model) → HasModel rows name dataset model
has_model rows name dataset model e =
    let a = kept_as_ok Model model_body name rows (dataset, model) e in
    a.1
    ∙ ap Some (record_read a.0 (model_record dataset model)
    (model_back a.0 (dataset, model) a.2)).0

-- and the certificate of a basis
pub has_basis : (rows : Rows) (name model : List ℕ) (c : Certificate) →
    found (basis_named name) rows ≡ Ok (model, c) →
    (body : List ℕ) × (get rows (key_of Basis name) ≡ Some body) × BasisRead body model c
has_basis rows name model c e =
    let a = kept_as_ok Basis basis_body name rows (model, c) e in
    (a.0, a.1, basis_back a.0 model c a.2)

-- ---- dataset

-- a dataset that was read is kept
abbrev pub keeps_dataset : List ℕ → World → CrossTable → Decided Plan
keeps_dataset name w table =
    kept_plan Dataset name None (written table) (cells_line table) w.rows

-- the plan of `dataset` fits
pub dataset_fits : (name file : List ℕ) (w : World) (plan : Plan) →
    dataset_plan name file w ≡ Ok plan → Fits plan.change w
dataset_fits name file w plan e =
    let a = stepped (dataset_file file w.files) (keeps_dataset name w) plan e in
    kept_fits Dataset name None (written a.0) (cells_line a.0) w plan a.2

-- and its answer has its meaning
pub dataset_means : (name file : List ℕ) (w : World) (plan : Plan) →
    dataset_plan name file w ≡ Ok plan →
    AnswersDataset w (changed plan.change w) name file plan.answer
dataset_means name file w plan e =
    let a = stepped (dataset_file file w.files) (keeps_dataset name w) plan e in
    let b = stepped (body_of 1 (get w.files file)) dataset_text a.0 a.1 in
    record {
      text = b.0;
      table = a.0;
      there = body_there 1 (get w.files file) b.0 b.1;
      read = or_ok data_refusal (dataset_of b.0) a.0 b.2;
      kept = kept_means Dataset name None (written a.0) (cells_line a.0) w plan a.2;
    }

-- ---- model

-- the text of a file that may be named was there
second_there : (named : Option (List ℕ)) (held : Held) (text : Option (List ℕ)) →
    second_text named held ≡ Ok text → MayHold held named text
second_there None held text e = cc
second_there (Some file) held text e =
    let a = stepped (body_of 2 (get held file)) (λ body. Ok (Some body)) text e in
    (a.0, cc, body_there 2 (get held file) a.0 a.1)

-- the texts of the files of `model` were there
pub record HasTexts (words : ModelWords) (held : Held) (texts : List ℕ × Option (List ℕ))
    : Type 0 where
  pub there : get held words.file ≡ Some texts.0
  pub matrix_there : MayHold held words.matrix texts.1

has_texts : (words : ModelWords) (held : Held) (texts : List ℕ × Option (List ℕ)) →
    model_texts words held ≡ Ok texts → HasTexts words held texts
has_texts words held texts e =
    let a =
    stepped (body_of 1 (get held words.file))
    (λ text. second_text words.matrix held >>= λ matrix. Ok (text, matrix)) texts e in
    let b = stepped (second_text words.matrix held) (λ matrix. Ok (a.0, matrix)) texts a.2 in
    let same : ◌≡◌ {A = List ℕ × Option (List ℕ)} (a.0, b.0) texts = cc in
    subst (HasTexts words held) same (record {
      there = body_there 1 (get held words.file) a.0 a.1;
      matrix_there = second_there words.matrix held b.0 b.1;
    })

-- what is known of a model that is kept
pub record KeepsModel (words : ModelWords) (w : World) (plan : Plan) : Type 0 where
  pub texts : List ℕ × Option (List ℕ)
  pub there : HasTexts words w.files texts
  pub table : CrossTable
  pub dataset : found (dataset_named words.dataset) w.rows ≡ Ok table
  pub model : ModelValue
  pub read : model_of texts.0 texts.1 table ≡ Ok model
  pub keeps : model_kept words.name words.dataset model w.rows ≡ Ok plan

pub keeps_model : (words : ModelWords) (w : World) (plan : Plan) → model_plan words w ≡ Ok plan →
    KeepsModel words w plan
keeps_model words w plan e =
    let a = stepped (model_texts words w.files) (λ texts. model_added words texts w.rows) plan e in
    let b =
    stepped (model_read words.dataset a.0 w.rows)
    (λ model. model_kept words.name words.dataset model w.rows) plan a.2 in
    let c = stepped (found (dataset_named words.dataset) w.rows) (model_text a.0) b.0 b.1 in
    record {
      texts = a.0;
      there = has_texts words w.files a.0 a.1;
      table = c.0;
      dataset = c.1;
      model = b.0;
      read = or_ok kind_refusal (model_of a.0.0 a.0.1 c.0) b.0 c.2;
      keeps = b.2;
    }

-- the plan of `model` fits
pub model_fits : (words : ModelWords) (w : World) (plan : Plan) → model_plan words w ≡ Ok plan →
    Fits plan.change w
model_fits words w plan e =
    let k = keeps_model words w plan e in
    kept_fits Model words.name (Some (Dataset, words.dataset))
    (written_record (model_record words.dataset k.model)) (margins_line (k.model).matrix) w plan
    k.keeps

-- and its answer has its meaning
pub model_means : (words : ModelWords) (w : World) (plan : Plan) → model_plan words w ≡ Ok plan →
    AnswersModel w (changed plan.change w) words plan.answer
model_means words w plan e =
    let k = keeps_model words w plan e in
    record {
      text = k.texts.0;
      matrix_text = k.texts.1;
      table = k.table;
      model = k.model;
      there = (k.there).there;
      matrix_there = (k.there).matrix_there;
      dataset = has_dataset w.rows words.dataset k.table k.dataset;
      read = k.read;
      kept = kept_means Model words.name (Some (Dataset, words.dataset))
          (written_record (model_record words.dataset k.model)) (margins_line (k.model).matrix) w
          plan k.keeps;
    }

-- ---- report

-- the plan of `report` fits
pub report_fits : (name : List ℕ) (w : World) (plan : Plan) → report_plan name w.rows ≡ Ok plan →
    Fits plan.change w
report_fits name w plan e =
    let a = stepped (printed_report name w.rows) (λ text. Ok (answers text)) plan e in
    answers_fit w (answers a.0) plan (λ misses. misses) a.2

-- and its answer has its meaning
pub report_means : (name : List ℕ) (w : World) (plan : Plan) → report_plan name w.rows ≡ Ok plan →
    AnswersReport w.rows name plan.answer
report_means name w plan e =
    let a = stepped (printed_report name w.rows) (λ text. Ok (answers text)) plan e in
    let b =
    stepped (found (analysis_named name) w.rows) (λ report. Ok (report_text report)) a.0 a.1 in
    let c = kept_as_ok Analysis analysis_body name w.rows b.0 b.1 in
    let back = report_back c.0 b.0 (ok_read (report_of c.0) b.0 c.2) in
    let printed : report_text b.0 ≡ a.0 = cc in
    record {
      report = b.0;
      is = back.is;
      there = c.1 ∙ ap Some back.written;
      printed = sym (printed ∙ plan_text a.0 plan a.2);
    }

-- ---- list

-- the plan of `list` fits
pub list_fits : (w : World) (plan : Plan) → list_plan w.rows ≡ Ok plan → Fits plan.change w
list_fits w plan e =
    let a = stepped (printed_list w.rows) (λ text. Ok (answers text)) plan e in
    answers_fit w (answers a.0) plan (λ misses. misses) a.2

-- and its answer has its meaning
pub list_means : (w : World) (plan : Plan) → list_plan w.rows ≡ Ok plan →
    AnswersList w.rows plan.answer
list_means w plan e =
    let a = stepped (printed_list w.rows) (λ text. Ok (answers text)) plan e in
    let b = stepped (found listed_of w.rows) (λ listed. Ok (list_text listed)) a.0 a.1 in
    let printed : list_text b.0 ≡ a.0 = cc in
    record {
      listed = b.0;
      all = found_ok listed_of w.rows b.0 b.1;
      printed = sym (printed ∙ plan_text a.0 plan a.2);
    }

-- ---- export

-- a part of a basis is of its certificate
basis_part : (part : Part) (name : List ℕ) (rows : Rows) (text : List ℕ) →
    exported_basis part name rows ≡ Ok text → IsOfBasis rows name text (certificate_part part)
basis_part part name rows text e =
    let a =
    stepped (found (basis_named name) rows) (λ basis. Ok (certificate_part part basis.1)) text e in
    let b = has_basis rows name a.0.0 a.0.1 a.1 in
    let same : certificate_part part a.0.1 ≡ text = cc in
    (a.0.0, a.0.1, b.1 ∙ ap Some (b.2).written, (b.2).parts, sym same)

-- what is written is a part of the record
part_of : (part : Part) (name : List ℕ) (rows : Rows) (text : List ℕ) →
    exported part name rows ≡ Ok text → IsPartOf part name rows text
part_of parts.Dataset name rows text e =
    let a = stepped (found (dataset_named name) rows) (λ table. Ok (written table)) text e in
    let same : written a.0 ≡ text = cc in
    (a.0, has_dataset rows name a.0 a.1, sym same)
part_of parts.Matrix name rows text e =
    let a =
    stepped (found (model_named name) rows) (λ model. Ok (matrix_file (model.1).matrix)) text e in
    let same : matrix_file (a.0.1).matrix ≡ text = cc in
    (a.0.0, a.0.1, has_model rows name a.0.0 a.0.1 a.1, sym same)
part_of parts.Moves name rows text e = basis_part parts.Moves name rows text e
part_of parts.Certificate name rows text e = basis_part parts.Certificate name rows text e
part_of parts.Rules name rows text e = basis_part parts.Rules name rows text e

-- a file that was written holds its text
file_put : (held : Held) (file text : List ℕ) → get (insert held file text) file ≡ Some text
file_put held file text =
    get-insert nat_list_cmp_total held file text file
    ∙ ap (λ b. cond b (Some text) (get held file)) ((eq_by_cmp_equiv nat_list_cmp_total).refl file)

-- the plan of `export` fits
pub export_fits : (part : Part) (name file : List ℕ) (w : World) (plan : Plan) →
    export_plan part name file w ≡ Ok plan → Fits plan.change w
export_fits part name file w plan e =
    let a = stepped (exported part name w.rows) (λ body. Ok (writing part name file body)) plan e in
    answers_fit w (writing part name file a.0) plan (λ misses. misses) a.2

-- and its answer has its meaning
pub export_means : (part : Part) (name file : List ℕ) (w : World) (plan : Plan) →
    export_plan part name file w ≡ Ok plan →
    AnswersExport w (changed plan.change w) part name file plan.answer
export_means part name file w plan e =
    let a = stepped (exported part name w.rows) (λ body. Ok (writing part name file body)) plan e in
    let made : AnswersExport w (changed (Writes file a.0) w) part name file
    (wrote_line part name a.0) =
    record {
      text = a.0;
      part_of = part_of part name w.rows a.0 a.1;
      there = file_put w.files file a.0;
      printed = refl;
    } in
    let same : writing part name file a.0 ≡ plan = cc in
    subst (λ (p : Plan). AnswersExport w (changed p.change w) part name file p.answer) same made

-- ---- remove

-- what is there isn't missing
there_misses : {A : Type 0} (o : Option A) (x : A) → o ≡ Some x → o ≡ None → ⊥
there_misses o x there none = cc

-- what is known of a record that is removed
record IsRemovable (kind : Kind) (name : List ℕ) (rows : Rows) : Type 0 where
  body : List ℕ
  there : get rows (key_of kind name) ≡ Some body
  free : unused name (referring_kind kind) rows ≡ Ok tt

is_removable : (kind : Kind) (name : List ℕ) (rows : Rows) (done : Unit {0}) →
    removable kind name rows ≡ Ok done → IsRemovable kind name rows
is_removable kind name rows done e =
    let a =
    stepped (kept kind name rows) (λ body. unused name (referring_kind kind) rows) done
    (or_ok (change_refusal kind name) (removed_of kind name rows) done e) in
    record { body = a.0; there = kept_ok kind name rows a.0 a.1; free = a.2 }

-- a row that was taken out is gone
row_gone : (rows : Rows) (kind : Kind) (name : List ℕ) →
    get (remove rows (key_of kind name)) (key_of kind name) ≡ None
row_gone rows kind name =
    get-remove keys_total rows (key_of kind name) (key_of kind name)
    ∙ ap (λ b. cond b None (get rows (key_of kind name))) (same_itself (key_of kind name))

-- the plan of `remove` fits
pub remove_fits : (kind : Kind) (name : List ℕ) (w : World) (plan : Plan) →
    remove_plan kind name w.rows ≡ Ok plan → Fits plan.change w
remove_fits kind name w plan e =
    let a = stepped (removable kind name w.rows) (λ done. Ok (removing kind name)) plan e in
    let is = is_removable kind name w.rows a.0 a.1 in
    answers_fit w (removing kind name) plan
    (there_misses (get w.rows (key_of kind name)) is.body is.there) a.2

-- and its answer has its meaning
pub remove_means : (kind : Kind) (name : List ℕ) (w : World) (plan : Plan) →
    remove_plan kind name w.rows ≡ Ok plan →
    AnswersRemove w.rows (changed plan.change w).rows kind name plan.answer
remove_means kind name w plan e =
    let a = stepped (removable kind name w.rows) (λ done. Ok (removing kind name)) plan e in
    let is = is_removable kind name w.rows a.0 a.1 in
    let made : AnswersRemove w.rows (changed (Removes kind name) w).rows kind name
    (removed_line kind name) = record {
      body = is.body;
      there = is.there;
      free = is.free;
      gone = row_gone w.rows kind name;
      printed = refl;
    } in
    let same : removing kind name ≡ plan = cc in
    subst (λ (p : Plan). AnswersRemove w.rows (changed p.change w).rows kind name p.answer)
    same made
