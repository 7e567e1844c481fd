-- What is known where `basis` completed a model.
use Rattle.std.proofs.Common.{List, Ok, Some, ap, refl, subst, ℕ, ◌≡◌}
use Rattle.mb_certificate.specs.Certificate.{Certificate}
use Rattle.mb_certificate.specs.Valid.{IsValid}
use Rattle.mb_completion.proofs.Births.{births-valid}
use Rattle.mb_completion.proofs.ComputedRuns.{runs-computed}
use Rattle.mb_completion.proofs.OneMade.{run_certified}
use Rattle.mb_completion.specs.Basis.{IsReducedBasis}
use Rattle.mb_completion.specs.CertificateOf.{certificate_of_basis, certificate_of_run}
use Rattle.mb_completion.specs.Outcome.{outcome_of}
use Rattle.mb_completion.specs.Run.{Finished, Outcome, RunEnds, TooHeavy, Unfinished}
use Rattle.mb_completion.specs.Start.{births_of}
use Rattle.mb_desk.proofs.Fitting.{Fits}
use Rattle.mb_desk.proofs.KeptRecords.{kept_as_ok, kept_fits, kept_means}
use Rattle.mb_desk.proofs.StoredInversions.{has_model}
use Rattle.mb_desk.specs.AnalysisAnswers.{AnswersBasis}
use Rattle.mb_desk.specs.BasisCommand.{basis_plan, completed_named, completion_lines}
use Rattle.mb_desk.specs.Changes.{changed}
use Rattle.mb_desk.specs.Completing.{completed, completion_of}
use Rattle.mb_desk.specs.Recorded.{found, kept_plan}
use Rattle.mb_desk.specs.World.{World}
use Rattle.mb_desk.specs.declared.completing.Completion.{Completion}
use Rattle.mb_desk.specs.declared.plans.Plan.{Plan}
use Rattle.mb_desk.specs.declared.requests.BasisWords.{BasisWords}
use Rattle.mb_kinds.proofs.ReadTexts.{record_read}
use Rattle.mb_kinds.specs.Model.{IsModel, ModelValue}
use Rattle.mb_matrix.specs.MarkovBasis.{IsMarkovBasis}
use Rattle.mb_matrix.specs.Matrix.{Design, IsDesign}
use Rattle.mb_order.specs.Rewriting.{Rule}
use Rattle.mb_order.specs.declared.order.Order.{Order}
use Rattle.mb_outside.specs.Rows.{Rows}
use Rattle.mb_registry.proofs.RecordTexts.{model_back}
use Rattle.mb_registry.specs.Bodies.{basis_text, model_body, model_record}
use Rattle.mb_registry.specs.Looking.{model_named}
use Rattle.mb_registry.specs.declared.kinds.Kind.TheVariants.{Basis, Model}
use Rattle.mb_text.proofs.RecordSteps.{stepped}

-- a model that was found meets the rules of models
pub model_sound : (rows : Rows) (name dataset : List ℕ) (model : ModelValue) →
    found (model_named name) rows ≡ Ok (dataset, model) → IsModel model
model_sound rows name dataset model e =
    let a = kept_as_ok Model model_body name rows (dataset, model) e in
    (record_read a.0 (model_record dataset model) (model_back a.0 (dataset, model) a.2)).1.sound

-- where there is a completion, its run is finished, and its certificate is the one of that run
completion_is : (matrix : Design) (order : Order) (end : Outcome) (c : Completion) →
    completion_of matrix order end ≡ Ok c →
    (final : List Rule) × (end ≡ Finished final c.looks)
    × (certificate_of_run matrix order final ≡ c.certificate)
completion_is matrix order (Finished final looks) c e =
    let own : Completion = record {
      certificate = certificate_of_run matrix order final;
      looks = looks;
    } in
    let same : own ≡ c = cc in (
      final,
      ap (λ (x : Completion). Finished final x.looks) same,
      ap (λ (x : Completion). x.certificate) same,
    )
completion_is matrix order (Unfinished looks i j) c e = absurd (cc)
completion_is matrix order (TooHeavy i j) c e = absurd (cc)

-- what is known of the certificate of a finished run
pub record IsOf (matrix : Design) (order : Order) (c : Certificate) : Type 0 where
  pub matrix_is : c.matrix ≡ matrix
  pub order_is : c.order ≡ order
  pub reduced : IsReducedBasis matrix order c.rules
  pub valid : IsValid c
  pub basis : IsMarkovBasis matrix c.moves

certified : (matrix : Design) (order : Order) (pairs : ℕ) (final : List Rule) (looks : ℕ) →
    IsDesign matrix → RunEnds matrix order pairs (Finished final looks) →
    IsOf matrix order (certificate_of_run matrix order final)
unfolding certificate_of_basis
certified matrix order pairs final looks design run =
    let all = run_certified matrix order pairs final looks design run in record {
      matrix_is = refl;
      order_is = refl;
      reduced = all.0;
      valid = all.1;
      basis = all.2;
    }

-- the plan of `basis` fits
pub basis_fits : (words : BasisWords) (w : World) (plan : Plan) →
    basis_plan words w.rows ≡ Ok plan → Fits plan.change w
basis_fits words w plan e =
    let a = stepped (completed_named words w.rows) (λ c.
    kept_plan Basis words.name (Some (Model, words.model)) (basis_text words.model c.certificate)
    (completion_lines c) w.rows) plan e in
    kept_fits Basis words.name (Some (Model, words.model))
    (basis_text words.model (a.0).certificate) (completion_lines a.0) w plan a.2

-- what is known of the completion of the model of a name
pub record IsCompleted (words : BasisWords) (rows : Rows) (completion : Completion) : Type 0 where
  pub dataset : List ℕ
  pub model : ModelValue
  pub there : found (model_named words.model) rows ≡ Ok (dataset, model)
  pub final : List Rule
  pub ran : RunEnds model.matrix words.order words.looks (Finished final completion.looks)
  pub made : IsOf model.matrix words.order completion.certificate

pub is_completed : (words : BasisWords) (rows : Rows) (completion : Completion) →
    completed_named words rows ≡ Ok completion → IsCompleted words rows completion
unfolding completed
is_completed words rows completion e =
    let b = stepped (found (model_named words.model) rows)
    (λ model. completed model.1.matrix words.order words.looks) completion e in
    let model = (b.0).1 in
    let design = (model_sound rows words.model (b.0).0 model b.1).design in
    let run = completion_is model.matrix words.order
    (outcome_of model.matrix words.order words.looks) completion b.2 in
    let own = runs-computed model.matrix words.order design words.looks (births_of model.matrix) 0
    (births-valid words.order model.matrix.rows model.matrix.columns design.each) in
    let ran = subst (RunEnds model.matrix words.order words.looks) run.1 own in
    record {
      dataset = (b.0).0;
      model = model;
      there = b.1;
      final = run.0;
      ran = ran;
      made = subst (IsOf model.matrix words.order) run.2
          (certified model.matrix words.order words.looks run.0 completion.looks design ran);
    }

-- and its answer has its meaning
pub basis_means : (words : BasisWords) (w : World) (plan : Plan) →
    basis_plan words w.rows ≡ Ok plan →
    AnswersBasis words w.rows (changed plan.change w).rows plan.answer
basis_means words w plan e =
    let a = stepped (completed_named words w.rows) (λ c.
    kept_plan Basis words.name (Some (Model, words.model)) (basis_text words.model c.certificate)
    (completion_lines c) w.rows) plan e in
    let is = is_completed words w.rows a.0 a.1 in
    record {
      dataset = is.dataset;
      model = is.model;
      certificate = (a.0).certificate;
      final = is.final;
      looks = (a.0).looks;
      model_there = has_model w.rows words.model is.dataset is.model is.there;
      matrix = is.made.matrix_is;
      order = is.made.order_is;
      completed = is.ran;
      reduced = is.made.reduced;
      valid = is.made.valid;
      basis = is.made.basis;
      kept = kept_means Basis words.name (Some (Model, words.model))
          (basis_text words.model (a.0).certificate) (completion_lines a.0) w plan a.2;
    }
