-- Bodies and records: each is read as the record of which it is the body.
use Rattle.std.proofs.Common.{Bool, List, Ok, Some, ap, refl, subst, ℕ, ◌∙◌, ◌≡◌}
use Rattle.std.proofs.lemmas.Slice.Eq.{bytes_eq-Decides}
use Rattle.std.specs.Option.{option_and_then, option_map}
use Rattle.std.specs.Result.{result_ok}
use Rattle.std.specs.Str.{bytes_eq}
use Rattle.mb_certificate.specs.Certificate.{Certificate}
use Rattle.mb_data.proofs.WrittenRead.{written_read}
use Rattle.mb_data.specs.CrossTable.{CrossTable}
use Rattle.mb_data.specs.DatasetText.{dataset_of}
use Rattle.mb_data.specs.Written.{written}
use Rattle.mb_kinds.proofs.ReadTexts.{record_read}
use Rattle.mb_kinds.proofs.WrittenTexts.{record_said}
use Rattle.mb_kinds.specs.Model.{ModelValue}
use Rattle.mb_kinds.specs.Record.{ModelRecord}
use Rattle.mb_kinds.specs.RecordText as model_texts
use Rattle.mb_registry.proofs.BasisTexts.{basis_back, basis_said, map_read, ok_read}
use Rattle.mb_registry.proofs.ReadDatasets.{dataset_sound}
use Rattle.mb_registry.specs.Bodies.{HasFewTables, IsRecord, analysis_body, basis_body, body_of, dataset_body, model_body, model_record, record_of}
use Rattle.mb_registry.specs.Records.{OfAnalysis, OfBasis, OfDataset, OfModel, RecordValue, kind_of}
use Rattle.mb_registry.specs.declared.kinds.Kind.{Kind}
use Rattle.mb_registry.specs.declared.kinds.Kind.TheVariants.{Analysis, Basis, Dataset, Model}
use Rattle.mb_reports.proofs.ReportTexts.{report_back, report_said}
use Rattle.mb_reports.specs.ReportText.{report_of}
use Rattle.mb_text.proofs.LineReaders.{and_then_read, passing_read, passing_written}
use Rattle.mb_text.proofs.PieceCases.{same_text}
use Rattle.mb_text.specs.LineForms.{passing}
use Rattle.mb_text.specs.Name.{IsName}

-- a name that was read before a model is one
pub model_named : (body dataset : List ℕ) (model : ModelValue) →
    model_texts.record_of body ≡ Ok (model_record dataset model) → IsName dataset
model_named body dataset model e = (record_read body (model_record dataset model) e).1.named

-- whether a body is the written form of a table
abbrev pub is_written_form : List ℕ → CrossTable → Bool
is_written_form body table = bytes_eq body (written table)

-- what is written of a record is read as it
pub record_written : (entry : RecordValue) → IsRecord entry → HasFewTables entry →
    record_of (kind_of entry) (body_of entry) ≡ Some entry
record_written (OfDataset table) is few =
    ap (λ r. option_map OfDataset (option_and_then (passing (is_written_form (written table)))
    (result_ok r))) (written_read table is)
    ∙ ap (λ o. option_map OfDataset o)
    (passing_written (is_written_form (written table)) table (same_text (written table)))
record_written (OfModel dataset model) is few =
    ap (λ r. option_map (λ (m : List ℕ × ModelValue). OfModel m.0 m.1)
    (option_map (λ (e : ModelRecord). (e.dataset, e.model)) (result_ok r)))
    (record_said (model_record dataset model) is)
record_written (OfBasis model certificate) is few =
    ap (λ o. option_map (λ b. OfBasis b.0 b.1) o) (basis_said model certificate is.0 is.1)
record_written (OfAnalysis report) is few =
    ap (λ r. option_map OfAnalysis (result_ok r)) (report_said report is.0 is.1 few)

-- a dataset that was read
pub dataset_back : (body : List ℕ) (table : CrossTable) → dataset_body body ≡ Some table →
    (dataset_of body ≡ Ok table) × (body ≡ written table)
dataset_back body table e =
    let a = and_then_read (result_ok (dataset_of body)) (passing (is_written_form body)) table e in
    let b = passing_read (is_written_form body) a.0 table a.2 in (
      ok_read (dataset_of body) table (a.1 ∙ ap Some b.0),
      (bytes_eq-Decides body (written table)).0 b.1,
    )

-- a model that was read
pub model_back : (body : List ℕ) (m : List ℕ × ModelValue) → model_body body ≡ Some m →
    model_texts.record_of body ≡ Ok (model_record m.0 m.1)
model_back body m e =
    let a =
    map_read (λ (e : ModelRecord). (e.dataset, e.model))
    (result_ok (model_texts.record_of body)) m e in
    ok_read (model_texts.record_of body) (model_record m.0 m.1)
    (a.1 ∙ ap (λ (p : List ℕ × ModelValue). Some (model_record p.0 p.1)) a.2)

-- what is known of a record that was read from a body
pub record RecordRead (kind : Kind) (body : List ℕ) (entry : RecordValue) : Type 0 where
  pub kind_is : kind_of entry ≡ kind
  pub written : body ≡ body_of entry

-- each record that was read has its kind, and its body is what is written of it
pub record_back : (kind : Kind) (body : List ℕ) (entry : RecordValue) →
    record_of kind body ≡ Some entry → RecordRead kind body entry
record_back Dataset body entry e =
    let a = map_read OfDataset (dataset_body body) entry e in
    subst (RecordRead Dataset body) a.2
    (record { kind_is = refl; written = (dataset_back body a.0 a.1).1 })
record_back Model body entry e =
    let a = map_read (λ (m : List ℕ × ModelValue). OfModel m.0 m.1) (model_body body) entry e in
    let b = record_read body (model_record a.0.0 a.0.1) (model_back body a.0 a.1) in
    subst (RecordRead Model body) a.2 (record { kind_is = refl; written = b.0 })
record_back Basis body entry e =
    let a = map_read (λ (b : List ℕ × Certificate). OfBasis b.0 b.1) (basis_body body) entry e in
    let b = basis_back body a.0.0 a.0.1 a.1 in
    subst (RecordRead Basis body) a.2 (record { kind_is = refl; written = b.written })
record_back Analysis body entry e =
    let a = map_read OfAnalysis (analysis_body body) entry e in
    let b = report_back body a.0 (ok_read (report_of body) a.0 a.1) in
    subst (RecordRead Analysis body) a.2 (record { kind_is = refl; written = b.written })

-- a record that was read is within the limits
pub record_sound : (kind : Kind) (body : List ℕ) (entry : RecordValue) →
    record_of kind body ≡ Some entry → IsRecord entry
record_sound Dataset body entry e =
    let a = map_read OfDataset (dataset_body body) entry e in
    subst IsRecord a.2 (dataset_sound body a.0 (dataset_back body a.0 a.1).0)
record_sound Model body entry e =
    let a = map_read (λ (m : List ℕ × ModelValue). OfModel m.0 m.1) (model_body body) entry e in
    subst IsRecord a.2
    (record_read body (model_record a.0.0 a.0.1) (model_back body a.0 a.1)).1
record_sound Basis body entry e =
    let a = map_read (λ (b : List ℕ × Certificate). OfBasis b.0 b.1) (basis_body body) entry e in
    let b = basis_back body a.0.0 a.0.1 a.1 in
    subst IsRecord a.2 (b.named, b.parts)
record_sound Analysis body entry e =
    let a = map_read OfAnalysis (analysis_body body) entry e in
    let b = report_back body a.0 (ok_read (report_of body) a.0 a.1) in
    subst IsRecord a.2 (b.is, b.fits)
