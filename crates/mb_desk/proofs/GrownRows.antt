-- A record that fits those that it leads to may be added to sound rows.
use Rattle.std.proofs.Common.{Bool, List, None, Ok, Option, Some, [], ap, cond, false, refl, subst, sym, true, ℕ, ◌∙◌, ◌∷◌, ◌≡◌}
use Rattle.std.proofs.lemmas.List.Elements.{All-cons, All-nil}
use Rattle.std.specs.FinMap.{get, get-insert, insert}
use Rattle.mb_desk.proofs.KeptRecords.{kept_as_is, was_before}
use Rattle.mb_desk.proofs.Standing.{kept_as_stands, kept_as_there, records_stand, stand_inserted}
use Rattle.mb_desk.specs.Sound.{AreSound, IsSoundRecord}
use Rattle.mb_desk.specs.SoundLaws.{RowsStand}
use Rattle.mb_outside.proofs.KeptRows.{keys_total}
use Rattle.mb_outside.specs.Rows.{Key, Rows}
use Rattle.mb_registry.proofs.OrderlyRows.{kind_by_number}
use Rattle.mb_registry.proofs.OrderlySteps.{steps_orderly}
use Rattle.mb_registry.proofs.RecordTexts.{record_written}
use Rattle.mb_registry.proofs.RowKeys.{same_is, same_key}
use Rattle.mb_registry.specs.Adding.{beside_kept, refers, rows_added}
use Rattle.mb_registry.specs.Bodies.{HasFewTables, IsRecord, body_of, dataset_body, model_body, record_of}
use Rattle.mb_registry.specs.Faults.{Answer}
use Rattle.mb_registry.specs.Kinds.{key_of}
use Rattle.mb_registry.specs.Looking.{get_of}
use Rattle.mb_registry.specs.Orderly.{Adds, AreOrderly, IsStep, Step, after_step, after_steps, record_added}
use Rattle.mb_registry.specs.Records.{OfAnalysis, OfBasis, OfDataset, OfModel, RecordValue, kind_of, reference_of}
use Rattle.mb_registry.specs.declared.adding.Added.{Added}
use Rattle.mb_registry.specs.declared.adding.Added.TheVariants.{Stored, Unchanged}
use Rattle.mb_registry.specs.declared.kinds.Kind.{Kind}
use Rattle.mb_registry.specs.declared.kinds.Kind.TheVariants.{Dataset, Model}
use Rattle.mb_tables.specs.Answers.{◌>>=◌}
use Rattle.mb_text.proofs.RecordSteps.{stepped}
use Rattle.mb_text.specs.Name.{IsName}

-- a record that fits still does in all rows in which the rows stand
pub sound_stands : (before after : Rows) (name : List ℕ) (entry : RecordValue) →
    RowsStand before after → IsSoundRecord before name entry → IsSoundRecord after name entry
sound_stands before after name (OfDataset table) stand sound = tt
sound_stands before after name (OfModel dataset model) stand sound = record {
  table = sound.table;
  there = kept_as_stands Dataset dataset_body dataset before after sound.table stand sound.there;
  cells = sound.cells;
}
sound_stands before after name (OfBasis model c) stand sound = record {
  dataset = sound.dataset;
  model = sound.model;
  there = kept_as_stands Model model_body model before after _ stand sound.there;
  matrix = sound.matrix;
  valid = sound.valid;
}
sound_stands before after name (OfAnalysis report) stand sound = record {
  records = sound.records;
  rings = sound.rings;
  fraction = sound.fraction;
  there = records_stand report.basis before after sound.records stand sound.there;
  test = sound.test;
  said = sound.said;
}

-- one step keeps order
pub one_orderly : (step : Step) (rows later : Rows) → IsStep step → AreOrderly rows →
    after_step step rows ≡ Ok later → AreOrderly later
unfolding after_steps
one_orderly step rows later is orderly e =
    steps_orderly (step ∷ []) rows later (All-cons IsStep step [] is (All-nil IsStep)) orderly
    (ap (λ (r : Answer Rows). r >>= λ later. Ok later) e)

-- the order of rows to which a record was added
added_orderly : (name : List ℕ) (entry : RecordValue) (rows : Rows) (added : Added) →
    IsName name → IsRecord entry → HasFewTables entry → AreOrderly rows →
    record_added name entry rows ≡ Ok added →
    AreOrderly (rows_added (kind_of entry) name (body_of entry) added rows)
added_orderly name entry rows added is sound few orderly e =
    one_orderly (Adds name entry) rows _ (is, (sound, few)) orderly
    (ap (λ (r : Answer Added). r >>= λ added.
    Ok (rows_added (kind_of entry) name (body_of entry) added rows)) e)

-- a row is stored only where there was none
stored_before : (name : List ℕ) (entry : RecordValue) (rows : Rows) →
    record_added name entry rows ≡ Ok Stored → get rows (key_of (kind_of entry) name) ≡ None
stored_before name entry rows e =
    let a =
    stepped (refers (reference_of entry) rows)
    (λ there. beside_kept (body_of entry) (get rows (key_of (kind_of entry) name))) Stored e in
    was_before (body_of entry) (get rows (key_of (kind_of entry) name)) Stored a.2

-- values that an option has are one
pub one_value : {A : Type 0} (o : Option A) (x y : A) → o ≡ Some x → o ≡ Some y → x ≡ y
one_value o x y e f = some_is x y (sym e ∙ f)
  where
    some_is : {A : Type 0} (x y : A) → ◌≡◌ {A = Option A} (Some x) (Some y) → x ≡ y
    some_is x y e = cc

module _ (name : List ℕ) (entry : RecordValue) (rows : Rows) (is : IsRecord entry)
    (few : HasFewTables entry) (sound : AreSound rows)
    (none : get rows (key_of (kind_of entry) name) ≡ None) (fits : IsSoundRecord rows name entry)
  where
    -- the rows with the record more
    abbrev grown : Rows
    grown = insert rows (key_of (kind_of entry) name) (body_of entry)

    -- each of their records fits: the new one, and those that were there
    each_fits : (kind : Kind) (other : List ℕ) (found : RecordValue) →
        get_of kind other grown ≡ Ok found → IsSoundRecord grown other found
    each_fits kind other found e =
        let a = kept_as_is kind (record_of kind) other grown found e in
        sound_stands rows grown other found
        (stand_inserted rows (key_of (kind_of entry) name) (body_of entry) none)
        (by a.0 a.2 (same_key (key_of kind other) (key_of (kind_of entry) name)) refl
        (sym (get-insert keys_total rows (key_of (kind_of entry) name) (body_of entry)
        (key_of kind other)) ∙ a.1))
      where
        by : (body : List ℕ) → record_of kind body ≡ Some found → (b : Bool) →
            same_key (key_of kind other) (key_of (kind_of entry) name) ≡ b →
            cond b (Some (body_of entry)) (get rows (key_of kind other)) ≡ Some body →
            IsSoundRecord rows other found
        by body says true same f =
            let one : key_of kind other ≡ key_of (kind_of entry) name =
            same_is (key_of kind other) (key_of (kind_of entry) name) same in
            let kinds : kind ≡ kind_of entry =
            kind_by_number kind (kind_of entry) (ap (λ (k : Key). k.0) one) in
            let names : other ≡ name = ap (λ (k : Key). k.1) one in
            let bodies : body_of entry ≡ body = cc in
            let read : record_of kind body ≡ Some entry =
            ap (λ b. record_of kind b) (sym bodies) ∙ ap (λ k. record_of k (body_of entry)) kinds
            ∙ record_written entry is few in
            let entries : entry ≡ found =
            one_value (record_of kind body) entry found read says in
            subst (λ e. IsSoundRecord rows other e) entries
            (subst (λ n. IsSoundRecord rows n entry) (sym names) fits)
        by body says false same f =
            sound.each kind other found
            (kept_as_there kind (record_of kind) other rows body found f says)

-- rows to which a record was added that fits
pub added_sound : (name : List ℕ) (entry : RecordValue) (rows : Rows) (added : Added) →
    IsName name → IsRecord entry → HasFewTables entry → AreSound rows →
    record_added name entry rows ≡ Ok added → IsSoundRecord rows name entry →
    AreSound (rows_added (kind_of entry) name (body_of entry) added rows)
added_sound name entry rows Unchanged is entry_is few sound e fits = sound
added_sound name entry rows Stored is entry_is few sound e fits = record {
  orderly = added_orderly name entry rows Stored is entry_is few sound.orderly e;
  each = each_fits name entry rows entry_is few sound (stored_before name entry rows e) fits;
}
