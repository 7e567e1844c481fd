-- Look-ups in rows that stand.
use Rattle.std.proofs.Common.{Bool, List, None, Ok, Option, Some, ap, cond, false, refl, sym, true, ℕ, ◌∙◌, ◌≡◌}
use Rattle.std.specs.FinMap.{get, get-insert, insert}
use Rattle.std.specs.Option.{ok_or}
use Rattle.mb_desk.proofs.KeptRecords.{found_ok, kept_as_is}
use Rattle.mb_desk.proofs.LinkedRecords.{found_is, linked_found, records_linked}
use Rattle.mb_desk.specs.AnalyseCommand.{records_named}
use Rattle.mb_desk.specs.Recorded.{found}
use Rattle.mb_desk.specs.SoundLaws.{RowsStand}
use Rattle.mb_desk.specs.declared.commands.analyse.Records.{Records}
use Rattle.mb_outside.proofs.KeptRows.{keys_total}
use Rattle.mb_outside.specs.Rows.{Key, Rows}
use Rattle.mb_registry.proofs.RowKeys.{same_is, same_key}
use Rattle.mb_registry.specs.Bodies.{basis_body, dataset_body, model_body}
use Rattle.mb_registry.specs.Kinds.{key_of}
use Rattle.mb_registry.specs.Looking.{kept_as}
use Rattle.mb_registry.specs.declared.fault.RegistryFault.TheVariants.{BadRecord, Unknown}
use Rattle.mb_registry.specs.declared.kinds.Kind.{Kind}
use Rattle.mb_registry.specs.declared.kinds.Kind.TheVariants.{Basis, Dataset, Model}
use Rattle.mb_tables.specs.Answers.{◌>>=◌}

-- rows stand where one more is put under a key that had none
pub stand_inserted : (rows : Rows) (key : Key) (body : List ℕ) → get rows key ≡ None →
    RowsStand rows (insert rows key body)
stand_inserted rows key body none q old there =
    get-insert keys_total rows key body q ∙ by (same_key q key) refl
  where
    by : (b : Bool) → same_key q key ≡ b → cond b (Some body) (get rows q) ≡ Some old
    by true same = absurd (cc (sym there ∙ ap (get rows) (same_is q key same) ∙ none))
    by false same = there

-- a body that is there is read
pub kept_as_there : {A : Type 0} (kind : Kind) (read : List ℕ → Option A) (name : List ℕ)
    (rows : Rows) (body : List ℕ) (x : A) → get rows (key_of kind name) ≡ Some body →
    read body ≡ Some x → kept_as kind read name rows ≡ Ok x
kept_as_there {A} kind read name rows body x there says =
    ap (λ (o : Option (List ℕ)). ok_or o (Unknown kind name)
    >>= λ body. ok_or (read body) (BadRecord kind name)) there
    ∙ ap (λ (o : Option A). ok_or o (BadRecord kind name)) says

-- what is read under a kind and a name is read there in all rows in which these stand
pub kept_as_stands : {A : Type 0} (kind : Kind) (read : List ℕ → Option A) (name : List ℕ)
    (before after : Rows) (x : A) → RowsStand before after →
    kept_as kind read name before ≡ Ok x → kept_as kind read name after ≡ Ok x
kept_as_stands kind read name before after x stand e =
    let a = kept_as_is kind read name before x e in
    kept_as_there kind read name after a.0 x (stand (key_of kind name) a.0 a.1) a.2

-- what was found is found in all rows in which these stand
pub found_stands : {A : Type 0} (kind : Kind) (read : List ℕ → Option A) (name : List ℕ)
    (before after : Rows) (x : A) → RowsStand before after →
    found (kept_as kind read name) before ≡ Ok x → found (kept_as kind read name) after ≡ Ok x
found_stands kind read name before after x stand e =
    found_is (kept_as kind read name) after x
    (kept_as_stands kind read name before after x stand
    (found_ok (kept_as kind read name) before x e))

-- the records that a basis leads to are those in all rows in which these stand
pub records_stand : (basis : List ℕ) (before after : Rows) (records : Records) →
    RowsStand before after → records_named basis before ≡ Ok records →
    records_named basis after ≡ Ok records
records_stand basis before after records stand e =
    let linked = records_linked before basis records e in
    linked_found after basis records (record {
      basis_there = kept_as_stands Basis basis_body basis before after _ stand linked.basis_there;
      model_there =
          kept_as_stands Model model_body records.model_name before after _ stand
          linked.model_there;
      dataset_there =
          kept_as_stands Dataset dataset_body records.dataset_name before after _ stand
          linked.dataset_there;
    })
