-- A record to which none refers may be taken out of sound rows.
use Rattle.std.proofs.Common.{Bool, List, None, Ok, Option, Some, ap, cond, false, refl, subst, sym, true, ℕ, ◌∙◌, ◌≡◌}
use Rattle.std.specs.FinMap.{get, get-remove, remove}
use Rattle.std.specs.Option.{option_map}
use Rattle.std.specs.Prelude.{IsSome}
use Rattle.mb_certificate.specs.Certificate.{Certificate}
use Rattle.mb_desk.proofs.GrownRows.{one_orderly, one_value}
use Rattle.mb_desk.proofs.KeptRecords.{kept_as_is}
use Rattle.mb_desk.proofs.LinkedRecords.{AreLinked, linked_found, records_linked}
use Rattle.mb_desk.proofs.Standing.{kept_as_stands, kept_as_there}
use Rattle.mb_desk.specs.Sound.{AreSound, IsSoundRecord}
use Rattle.mb_desk.specs.SoundLaws.{RowsStand}
use Rattle.mb_desk.specs.declared.commands.analyse.Records.{Records}
use Rattle.mb_kinds.specs.Model.{ModelValue}
use Rattle.mb_outside.proofs.KeptRows.{keys_total}
use Rattle.mb_outside.specs.Rows.{Key, Rows}
use Rattle.mb_registry.proofs.OrderlyRows.{known_row}
use Rattle.mb_registry.proofs.RowKeys.{same_key}
use Rattle.mb_registry.specs.Bodies.{basis_body, dataset_body, model_body, record_of}
use Rattle.mb_registry.specs.Faults.{Answer}
use Rattle.mb_registry.specs.Kinds.{key_of}
use Rattle.mb_registry.specs.Looking.{basis_named, kept_as, model_named}
use Rattle.mb_registry.specs.Orderly.{AreOrderly, IsThere, Removes}
use Rattle.mb_registry.specs.Records.{OfAnalysis, OfBasis, OfDataset, OfModel, RecordValue, reference_of}
use Rattle.mb_registry.specs.Removing.{removed_of, rows_removed}
use Rattle.mb_registry.specs.declared.kinds.Kind.{Kind}
use Rattle.mb_registry.specs.declared.kinds.Kind.TheVariants.{Basis, Dataset, Model}
use Rattle.mb_tables.specs.Answers.{◌>>=◌}

-- rows without one of them stand in the rows
stand_removed : (rows : Rows) (key : Key) → RowsStand (remove rows key) rows
stand_removed rows key q body e =
    by (same_key q key) (sym (get-remove keys_total rows key q) ∙ e)
  where
    by : (b : Bool) → cond b None (get rows q) ≡ Some body → get rows q ≡ Some body
    by true f = absurd (cc f)
    by false f = f

-- what an orderly row refers to is there
row_refers : (rows : Rows) (kind : Kind) (name body : List ℕ) (entry : RecordValue) →
    AreOrderly rows → get rows (key_of kind name) ≡ Some body →
    record_of kind body ≡ Some entry → IsThere (reference_of entry) rows
row_refers rows kind name body entry orderly there says =
    let known = known_row rows kind name body orderly there in
    subst (λ e. IsThere (reference_of e) rows)
    (one_value (record_of kind body) known.entry entry known.says says) known.referred

-- fewer rows, in order, that stand in the rows
module _ (fewer rows : Rows) (stand : RowsStand fewer rows) (orderly : AreOrderly fewer) where
  -- what is read in the rows is read in fewer of them that have its row
  still_read : {A : Type 0} (kind : Kind) (read : List ℕ → Option A) (name : List ℕ) (x : A) →
      IsSome (get fewer (key_of kind name)) → kept_as kind read name rows ≡ Ok x →
      kept_as kind read name fewer ≡ Ok x
  still_read {A} kind read name x there e =
      by (get fewer (key_of kind name)) refl there
    where
      by : (o : Option (List ℕ)) → get fewer (key_of kind name) ≡ o → IsSome o →
          kept_as kind read name fewer ≡ Ok x
      by None left some = absurd (cc some)
      by (Some body) left some =
          let a = kept_as_is kind read name rows x e in
          let one : a.0 ≡ body =
          one_value (get rows (key_of kind name)) a.0 body a.1
          (stand (key_of kind name) body left) in
          kept_as_there kind read name fewer body x left (ap read (sym one) ∙ a.2)

  -- the model of a basis that is left is left
  basis_refers : (name model : List ℕ) (c : Certificate) →
      basis_named name fewer ≡ Ok (model, c) → IsSome (get fewer (key_of Model model))
  basis_refers name model c e =
      let a = kept_as_is Basis basis_body name fewer (model, c) e in
      row_refers fewer Basis name a.0 (OfBasis model c) orderly a.1
      (ap (λ (o : Option (List ℕ × Certificate)). option_map (λ b. OfBasis b.0 b.1) o) a.2)

  -- so is the dataset of a model
  model_refers : (name dataset : List ℕ) (model : ModelValue) →
      model_named name fewer ≡ Ok (dataset, model) → IsSome (get fewer (key_of Dataset dataset))
  model_refers name dataset model e =
      let a = kept_as_is Model model_body name fewer (dataset, model) e in
      row_refers fewer Model name a.0 (OfModel dataset model) orderly a.1
      (ap (λ (o : Option (List ℕ × ModelValue)). option_map (λ m. OfModel m.0 m.1) o) a.2)

  -- the records that a basis that is left leads to
  still_linked : (basis : List ℕ) (records : Records) → IsSome (get fewer (key_of Basis basis)) →
      AreLinked rows basis records → AreLinked fewer basis records
  still_linked basis records there linked =
      let basis_there =
      still_read Basis basis_body basis (records.model_name, records.certificate) there
      linked.basis_there in
      let model_there =
      still_read Model model_body records.model_name (records.dataset_name, records.model)
      (basis_refers basis records.model_name records.certificate basis_there)
      linked.model_there in
      record {
        basis_there = basis_there;
        model_there = model_there;
        dataset_there =
            still_read Dataset dataset_body records.dataset_name records.dataset
            (model_refers records.model_name records.dataset_name records.model model_there)
            linked.dataset_there;
      }

  -- a record that fits still does where what it refers to is left
  still_fits : (name : List ℕ) (entry : RecordValue) → IsThere (reference_of entry) fewer →
      IsSoundRecord rows name entry → IsSoundRecord fewer name entry
  still_fits name (OfDataset table) there sound = tt
  still_fits name (OfModel dataset model) there sound = record {
    table = sound.table;
    there = still_read Dataset dataset_body dataset sound.table there sound.there;
    cells = sound.cells;
  }
  still_fits name (OfBasis model c) there sound = record {
    dataset = sound.dataset;
    model = sound.model;
    there = still_read Model model_body model (sound.dataset, sound.model) there sound.there;
    matrix = sound.matrix;
    valid = sound.valid;
  }
  still_fits name (OfAnalysis report) there sound = record {
    records = sound.records;
    rings = sound.rings;
    fraction = sound.fraction;
    there = linked_found fewer report.basis sound.records
        (still_linked report.basis sound.records there
        (records_linked rows report.basis sound.records sound.there));
    test = sound.test;
    said = sound.said;
  }

  -- fewer rows of sound ones are sound
  fewer_sound : AreSound rows → AreSound fewer
  fewer_sound sound = record {
    orderly = orderly;
    each = λ kind name entry e.
        let a = kept_as_is kind (record_of kind) name fewer entry e in
        still_fits name entry (row_refers fewer kind name a.0 entry orderly a.1 a.2)
        (sound.each kind name entry
        (kept_as_stands kind (record_of kind) name fewer rows entry stand e));
  }

-- rows from which a record was removed
pub removed_sound : (kind : Kind) (name : List ℕ) (rows : Rows) → AreSound rows →
    removed_of kind name rows ≡ Ok tt → AreSound (remove rows (key_of kind name))
removed_sound kind name rows sound e =
    fewer_sound (remove rows (key_of kind name)) rows (stand_removed rows (key_of kind name))
    (one_orderly (Removes kind name) rows _ tt sound.orderly
    (ap (λ (r : Answer (Unit {0})). r >>= λ done. Ok (rows_removed kind name done rows)) e)) sound
