-- The records of an analysis, each linked to the next by its name.
use Rattle.std.proofs.Common.{List, Ok, ap, subst, ℕ, ◌∙◌, ◌≡◌}
use Rattle.mb_certificate.specs.Certificate.{Certificate}
use Rattle.mb_data.specs.CrossTable.{CrossTable}
use Rattle.mb_desk.proofs.AnalysedRecords.{of_parts}
use Rattle.mb_desk.proofs.KeptRecords.{found_ok}
use Rattle.mb_desk.specs.AnalyseCommand.{modelled, records_named}
use Rattle.mb_desk.specs.Decision.{Decided, or_refusal}
use Rattle.mb_desk.specs.Recorded.{found, look_refusal}
use Rattle.mb_desk.specs.declared.commands.analyse.Records.{Records}
use Rattle.mb_kinds.specs.Model.{ModelValue}
use Rattle.mb_outside.specs.Rows.{Rows}
use Rattle.mb_registry.specs.Faults.{Answer}
use Rattle.mb_registry.specs.Looking.{basis_named, dataset_named, model_named}
use Rattle.mb_tables.specs.Answers.{◌>>=◌}
use Rattle.mb_text.proofs.RecordSteps.{stepped}

-- what a look-up gives is found
pub found_is : {A : Type 0} (look : Rows → Answer A) (rows : Rows) (x : A) →
    look rows ≡ Ok x → found look rows ≡ Ok x
found_is look rows x e = ap (or_refusal look_refusal) e

-- the records that a basis leads to, each under the name that the one before it says
pub record AreLinked (rows : Rows) (basis : List ℕ) (records : Records) : Type 0 where
  pub basis_there : basis_named basis rows ≡ Ok (records.model_name, records.certificate)
  pub model_there : model_named records.model_name rows ≡ Ok (records.dataset_name, records.model)
  pub dataset_there : dataset_named records.dataset_name rows ≡ Ok records.dataset

-- the model and the dataset that were found
modelled_linked : (rows : Rows) (name : List ℕ) (parts : List ℕ × ModelValue × CrossTable) →
    modelled name rows ≡ Ok parts →
    (model_named name rows ≡ Ok (parts.0, parts.1)) × (dataset_named parts.0 rows ≡ Ok parts.2)
modelled_linked rows name parts e =
    let a = stepped (found (model_named name) rows)
    (λ (m : List ℕ × ModelValue). found (dataset_named m.0) rows >>= λ table.
    Ok (m.0, m.1, table)) parts e in
    let b = stepped (found (dataset_named (a.0).0) rows)
    (λ table. Ok ((a.0).0, (a.0).1, table)) parts a.2 in
    subst (λ (p : List ℕ × ModelValue × CrossTable).
    (model_named name rows ≡ Ok (p.0, p.1)) × (dataset_named p.0 rows ≡ Ok p.2))
    (one_of ((a.0).0, (a.0).1, b.0) parts b.2)
    (found_ok (model_named name) rows a.0 a.1, found_ok (dataset_named (a.0).0) rows b.0 b.1)
  where
    one_of : (p q : List ℕ × ModelValue × CrossTable) →
        (let d : Decided (List ℕ × ModelValue × CrossTable) = Ok p in d) ≡ Ok q → p ≡ q
    one_of p q f = cc

-- records that were found are linked
pub records_linked : (rows : Rows) (basis : List ℕ) (records : Records) →
    records_named basis rows ≡ Ok records → AreLinked rows basis records
records_linked rows basis records e =
    let a = stepped (found (basis_named basis) rows)
    (λ (proved : List ℕ × Certificate). modelled proved.0 rows >>= λ m. Ok (of_parts proved m))
    records e in
    let b = stepped (modelled (a.0).0 rows) (λ m. Ok (of_parts a.0 m)) records a.2 in
    let there = modelled_linked rows (a.0).0 b.0 b.1 in
    subst (AreLinked rows basis) (one_of (of_parts a.0 b.0) records b.2)
    (record {
      basis_there = found_ok (basis_named basis) rows a.0 a.1;
      model_there = there.0;
      dataset_there = there.1;
    })
  where
    one_of : (p q : Records) → (let d : Decided Records = Ok p in d) ≡ Ok q → p ≡ q
    one_of p q f = cc

-- and linked records are found
pub linked_found : (rows : Rows) (basis : List ℕ) (records : Records) →
    AreLinked rows basis records → records_named basis rows ≡ Ok records
linked_found rows basis records linked =
    ap (λ (r : Decided (List ℕ × Certificate)). r
    >>= λ proved. (modelled proved.0 rows >>= λ m. Ok (of_parts proved m)))
    (found_is (basis_named basis) rows _ linked.basis_there)
    ∙ ap (λ (r : Decided (List ℕ × ModelValue × CrossTable)). r
    >>= λ m. Ok (of_parts (records.model_name, records.certificate) m)) model
  where
    model : modelled records.model_name rows
        ≡ Ok (records.dataset_name, records.model, records.dataset)
    model =
        ap (λ (r : Decided (List ℕ × ModelValue)). r
        >>= λ m. (found (dataset_named m.0) rows >>= λ table. Ok (m.0, m.1, table)))
        (found_is (model_named records.model_name) rows _ linked.model_there)
        ∙ ap (λ (r : Decided CrossTable). r
        >>= λ table. Ok (records.dataset_name, records.model, table))
        (found_is (dataset_named records.dataset_name) rows _ linked.dataset_there)
