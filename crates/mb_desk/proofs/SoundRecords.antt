-- Records over sound rows: what is known of one that was looked up, and what keeping one keeps.
use Rattle.std.proofs.Common.{List, Ok, Option, ap, refl, subst, ℕ, ◌∙◌, ◌≡◌}
use Rattle.std.specs.Option.{option_map}
use Rattle.mb_certificate.specs.Certificate.{Certificate}
use Rattle.mb_certificate.specs.Valid.{IsValid}
use Rattle.mb_data.specs.CrossTable.{CrossTable}
use Rattle.mb_data.specs.Dataset.{IsCrossTable}
use Rattle.mb_desk.proofs.Fitting.{or_ok}
use Rattle.mb_desk.proofs.GrownRows.{added_sound}
use Rattle.mb_desk.proofs.KeptRecords.{kept_as_is}
use Rattle.mb_desk.proofs.Standing.{kept_as_there}
use Rattle.mb_desk.specs.Changes.{changed}
use Rattle.mb_desk.specs.Decision.{Decided}
use Rattle.mb_desk.specs.Recorded.{added_plan, added_to, change_refusal, kept_plan}
use Rattle.mb_desk.specs.Sound.{AreSound, IsSoundBasis, IsSoundRecord}
use Rattle.mb_desk.specs.World.{World}
use Rattle.mb_desk.specs.declared.plans.Plan.{Plan}
use Rattle.mb_kinds.proofs.ReadTexts.{record_read}
use Rattle.mb_kinds.specs.Model.{ModelValue}
use Rattle.mb_kinds.specs.Record.{IsModelRecord}
use Rattle.mb_outside.specs.Rows.{Rows}
use Rattle.mb_registry.proofs.OrderlyRows.{known_row}
use Rattle.mb_registry.proofs.ReadDatasets.{dataset_sound}
use Rattle.mb_registry.proofs.RecordTexts.{dataset_back, model_back}
use Rattle.mb_registry.specs.Adding.{added_of, rows_added}
use Rattle.mb_registry.specs.Bodies.{HasFewTables, IsRecord, basis_body, body_of, dataset_body, model_body, model_record, record_of}
use Rattle.mb_registry.specs.Looking.{basis_named, dataset_named, kept_as, model_named}
use Rattle.mb_registry.specs.Records.{OfBasis, RecordValue, kind_of, reference_of}
use Rattle.mb_registry.specs.declared.adding.Added.{Added}
use Rattle.mb_registry.specs.declared.adding.Added.TheVariants.{Stored, Unchanged}
use Rattle.mb_registry.specs.declared.kinds.Kind.{Kind}
use Rattle.mb_registry.specs.declared.kinds.Kind.TheVariants.{Basis, Dataset, Model}
use Rattle.mb_text.proofs.RecordSteps.{stepped}
use Rattle.mb_text.specs.Name.{IsName}

-- ---- looked up

-- what was looked up in sound rows has a name
pub looked_named : {A : Type 0} (kind : Kind) (read : List ℕ → Option A) (name : List ℕ)
    (rows : Rows) (x : A) → AreSound rows → kept_as kind read name rows ≡ Ok x → IsName name
looked_named kind read name rows x sound e =
    let a = kept_as_is kind read name rows x e in
    (known_row rows kind name a.0 sound.orderly a.1).named

-- a dataset that was looked up is within the limits
pub dataset_is : (rows : Rows) (name : List ℕ) (table : CrossTable) →
    dataset_named name rows ≡ Ok table → IsCrossTable table
dataset_is rows name table e =
    let a = kept_as_is Dataset dataset_body name rows table e in
    dataset_sound a.0 table (dataset_back a.0 table a.2).0

-- so is a model
pub model_is : (rows : Rows) (name dataset : List ℕ) (model : ModelValue) →
    model_named name rows ≡ Ok (dataset, model) → IsModelRecord (model_record dataset model)
model_is rows name dataset model e =
    let a = kept_as_is Model model_body name rows (dataset, model) e in
    (record_read a.0 (model_record dataset model) (model_back a.0 (dataset, model) a.2)).1

-- a basis that was looked up in sound rows fits its model
pub basis_sound : (rows : Rows) (name model : List ℕ) (c : Certificate) → AreSound rows →
    basis_named name rows ≡ Ok (model, c) → IsSoundBasis rows model c
basis_sound rows name model c sound e =
    let a = kept_as_is Basis basis_body name rows (model, c) e in
    sound.each Basis name (OfBasis model c)
    (kept_as_there Basis (record_of Basis) name rows a.0 (OfBasis model c) a.1
    (ap (λ (o : Option (List ℕ × Certificate)). option_map (λ b. OfBasis b.0 b.1) o) a.2))

-- so does a valid certificate of the same matrix
pub beside_sound : (rows : Rows) (model : List ℕ) (named new : Certificate) →
    IsSoundBasis rows model named → new.matrix ≡ named.matrix → IsValid new →
    IsSoundBasis rows model new
beside_sound rows model named new sound same valid = record {
  dataset = sound.dataset;
  model = sound.model;
  there = sound.there;
  matrix = same ∙ sound.matrix;
  valid = valid;
}

-- ---- kept

-- a plan that was decided keeps rows sound where its change does
pub decided_keeps : (w : World) (decided answer : Plan) →
    AreSound (changed decided.change w).rows →
    ◌≡◌ {A = Decided Plan} (Ok decided) (Ok answer) → AreSound (changed answer.change w).rows
decided_keeps w decided answer sound e =
    let same : decided ≡ answer = cc in
    subst (λ (p : Plan). AreSound (changed p.change w).rows) same sound

-- the rows after the plan of what becomes of a record
added_rows : (kind : Kind) (name body lines : List ℕ) (added : Added) (w : World) →
    rows_added kind name body added w.rows
    ≡ (changed (added_plan kind name body lines added).change w).rows
added_rows kind name body lines Stored w = refl
added_rows kind name body lines Unchanged w = refl

-- the plan that keeps a record that fits keeps rows sound
pub kept_sound : (name : List ℕ) (entry : RecordValue) (lines : List ℕ) (w : World)
    (plan : Plan) → IsName name → IsRecord entry → HasFewTables entry → AreSound w.rows →
    IsSoundRecord w.rows name entry →
    kept_plan (kind_of entry) name (reference_of entry) (body_of entry) lines w.rows ≡ Ok plan →
    AreSound (changed plan.change w).rows
unfolding added_to
kept_sound name entry lines w plan named is few sound fits e =
    let kind = kind_of entry in
    let body = body_of entry in
    let a =
    stepped (added_to kind name (reference_of entry) body w.rows)
    (λ added. Ok (added_plan kind name body lines added)) plan e in
    let added =
    or_ok (change_refusal kind name) (added_of kind name (reference_of entry) body w.rows) a.0
    a.1 in
    decided_keeps w (added_plan kind name body lines a.0) plan
    (subst AreSound (added_rows kind name body lines a.0 w)
    (added_sound name entry w.rows a.0 named is few sound added fits)) a.2
