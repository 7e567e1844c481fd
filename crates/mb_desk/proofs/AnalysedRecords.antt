-- The records of an analysis, looked up one after the other.
use Rattle.std.proofs.Common.{Err, List, Ok, Option, Result, false, subst, ℕ, ◌≡◌}
use Rattle.mb_certificate.specs.Certificate.{Certificate}
use Rattle.mb_data.specs.CrossTable.{CrossTable}
use Rattle.mb_desk.proofs.Steps.{goes_rows, stops_rows, then_rows}
use Rattle.mb_desk.specs.AnalyseCommand.{modelled, records_named, report_named, reported}
use Rattle.mb_desk.specs.Decision.{DoesRows, Follows, blames}
use Rattle.mb_desk.specs.Recorded.{found}
use Rattle.mb_desk.specs.declared.commands.analyse.Records.{Records}
use Rattle.mb_desk.specs.declared.plans.Stop.{Stop}
use Rattle.mb_desk.specs.declared.requests.AnalyseWords.{AnalyseWords}
use Rattle.mb_kinds.specs.Model.{ModelValue}
use Rattle.mb_outside.specs.Rows.{Rows}
use Rattle.mb_registry.specs.Looking.{basis_named, dataset_named, model_named}
use Rattle.mb_tables.specs.Answers.{◌>>=◌}

module _ (before between after : Option Rows) (n m k : ℕ) (name text dataset : List ℕ)
    (model : ModelValue) (same : text ≡ dataset)
    (first : DoesRows {A = List ℕ × ModelValue} before between n m (Ok (dataset, model))
    (found (model_named name))) where
  -- where the dataset is not found
  pub dataset-stops : (stop : Stop) →
      DoesRows {A = CrossTable} between after m k (Err stop) (found (dataset_named text)) →
      DoesRows {A = List ℕ × ModelValue × CrossTable} before after n k (Err stop) (modelled name)
  dataset-stops stop second =
      goes_rows before between after n m k (dataset, model) (Err stop) (found (model_named name))
      (λ pair rows. found (dataset_named pair.0) rows >>= λ table. Ok (pair.0, pair.1, table)) first
      (stops_rows between after m k stop (found (dataset_named dataset))
      (λ rows table. Ok (dataset, model, table))
      (subst (λ t. DoesRows {A = CrossTable} between after m k (Err stop) (found (dataset_named t)))
      same second))

-- the records of these parts
abbrev pub of_parts : List ℕ × Certificate → List ℕ × ModelValue × CrossTable → Records
of_parts proved model = record {
  model_name = proved.0;
  certificate = proved.1;
  dataset_name = model.0;
  model = model.1;
  dataset = model.2;
}

module _ (before between after : Option Rows) (n m k : ℕ) (name text model : List ℕ)
    (certificate : Certificate) (same : text ≡ model)
    (first : DoesRows {A = List ℕ × Certificate} before between n m (Ok (model, certificate))
    (found (basis_named name))) where
  -- where the model or its dataset is not found
  pub model-stops : (stop : Stop) →
      DoesRows {A = List ℕ × ModelValue × CrossTable} between after m k (Err stop) (modelled text) →
      DoesRows {A = Records} before after n k (Err stop) (records_named name)
  model-stops stop second =
      goes_rows before between after n m k (model, certificate) (Err stop)
      (found (basis_named name))
      (λ proved rows. modelled proved.0 rows >>= λ parts. Ok (of_parts proved parts)) first
      (stops_rows between after m k stop (modelled model)
      (λ rows parts. Ok (of_parts (model, certificate) parts))
      (subst (λ t. DoesRows {A = List ℕ × ModelValue × CrossTable} between after m k (Err stop)
      (modelled t)) same second))

-- the report on records that were found
pub report-made : (before after : Option Rows) (n m : ℕ) (words : AnalyseWords) (text : List ℕ)
    (records : Records) (answer : Result (List ℕ) Stop) → text ≡ words.basis →
    DoesRows {A = Records} before after n m (Ok records) (records_named text) →
    Follows answer (reported words records) → blames answer ≡ false →
    DoesRows before after n m answer (report_named words)
report-made before after n m words text records answer same does follows own =
    then_rows before after n m records answer (records_named words.basis) (reported words)
    (subst (λ t. DoesRows {A = Records} before after n m (Ok records) (records_named t)) same does)
    follows own
