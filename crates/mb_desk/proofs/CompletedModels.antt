-- The completion of a model ends in one way, and its certificate is the computed one.
use Rattle.std.proofs.Common.{List, None, Ok, Option, Some, ap, subst, sym, ℕ, ◌∙◌, ◌≡◌, ◌≤◌}
use Rattle.mb_certificate.proofs.NoFaults.{none-valid}
use Rattle.mb_certificate.specs.Certificate.{AreParts, Certificate}
use Rattle.mb_certificate.specs.Valid.{IsValid}
use Rattle.mb_completion.proofs.Births.{births-valid}
use Rattle.mb_completion.proofs.ComputedRuns.{runs-computed}
use Rattle.mb_completion.proofs.OneMade.{made_one}
use Rattle.mb_completion.proofs.SameOutcomes.{one_outcome}
use Rattle.mb_completion.specs.Basis.{IsReducedBasis}
use Rattle.mb_completion.specs.CertificateOf.{certificate_of_run}
use Rattle.mb_completion.specs.Faults.{Stops}
use Rattle.mb_completion.specs.Limits.{most_looks}
use Rattle.mb_completion.specs.Made.{AreNormalJoins, AreNormalStarts, moves_of, paths_of}
use Rattle.mb_completion.specs.Outcome.{outcome_of}
use Rattle.mb_completion.specs.Run.{Finished, Outcome, RunEnds, TooHeavy, Unfinished}
use Rattle.mb_completion.specs.Start.{births_of}
use Rattle.mb_completion.specs.declared.fault.CompleteFault.{CompleteFault}
use Rattle.mb_completion.specs.declared.fault.CompleteFault.TheVariants as runs
use Rattle.mb_desk.specs.CheckCommand.{judged, judged_by}
use Rattle.mb_desk.specs.Completing.{complete_stop, completed, completion_of}
use Rattle.mb_desk.specs.Decision.{Decided, stop_cause}
use Rattle.mb_desk.specs.declared.completing.Completion.{Completion}
use Rattle.mb_desk.specs.declared.plans.Stop.{Stop}
use Rattle.mb_desk.specs.declared.refusals.Refusal.{Refusal}
use Rattle.mb_matrix.specs.Matrix.{Design, IsDesign}
use Rattle.mb_order.specs.Rewriting.{Rule}
use Rattle.mb_order.specs.declared.order.Order.{Order}
use Rattle.mb_tables.specs.Answers.{IsRefused}

module _ (matrix : Design) (order : Order) (pairs : ℕ) (design : IsDesign matrix) where
  -- the run ends in one way
  ends-so : (end : Outcome) → RunEnds matrix order pairs end →
      completed matrix order pairs ≡ completion_of matrix order end
  unfolding completed
  ends-so end r =
      let valid = births-valid order matrix.rows matrix.columns design.each in
      let own = runs-computed matrix order design pairs (births_of matrix) 0 valid in
      ap (completion_of matrix order) (one_outcome matrix order design pairs (births_of matrix) 0
      (outcome_of matrix order pairs) end valid own r)

  -- where it stops, so does the completion
  pub completion-stops : (fault : CompleteFault) →
      Stops matrix order pairs (births_of matrix) 0 fault →
      IsRefused (stop_cause (complete_stop fault)) (completed matrix order pairs)
  completion-stops (runs.Unfinished looked left) r = ends-so (Unfinished looked left.0 left.1) r
  completion-stops (runs.Exponent pair) r = ends-so (TooHeavy pair.0 pair.1) r
  completion-stops runs.OutOfMemory r = tt

  -- where it is finished, its certificate is the one that is made
  pub completion-made : (final : List Rule) (looks : ℕ) (rules : List Rule) (c : Certificate) →
      pairs ≤ most_looks → RunEnds matrix order pairs (Finished final looks) →
      IsReducedBasis matrix order rules → c.matrix ≡ matrix → c.order ≡ order → c.rules ≡ rules →
      c.moves ≡ moves_of matrix.rows rules → AreNormalStarts matrix rules c.starts →
      AreNormalJoins rules c.joins → c.paths ≡ paths_of matrix.rows rules →
      completed matrix order pairs ≡ Ok (record { certificate = c; looks = looks })
  completion-made final looks rules c few run basis m o r moves starts joins paths =
      let by_matrix = subst (λ (x : Design). IsReducedBasis x order rules) (sym m) basis in
      let by_order = subst (λ (x : Order). IsReducedBasis c.matrix x rules) (sym o) by_matrix in
      let ran = subst (λ (x : Order). RunEnds c.matrix x pairs (Finished final looks)) (sym o)
      (subst (λ (x : Design). RunEnds x order pairs (Finished final looks)) (sym m) run) in
      let one = made_one c pairs final looks (subst IsDesign (sym m) design) ran
      (subst (IsReducedBasis c.matrix c.order) (sym r) by_order)
      (record {
        moves = moves ∙ ap (λ (x : Design). moves_of x.rows rules) (sym m)
            ∙ ap (moves_of c.matrix.rows) (sym r);
        starts = subst (λ x. AreNormalStarts c.matrix x c.starts) (sym r)
            (subst (λ (x : Design). AreNormalStarts x rules c.starts) (sym m) starts);
        joins = subst (λ x. AreNormalJoins x c.joins) (sym r) joins;
        paths = paths ∙ ap (λ (x : Design). paths_of x.rows rules) (sym m)
            ∙ ap (paths_of c.matrix.rows) (sym r);
      }) in
      let same : certificate_of_run matrix order final ≡ c =
      sym (one ∙ ap (λ (x : Design). certificate_of_run x c.order final) m
      ∙ ap (λ (x : Order). certificate_of_run matrix x final) o) in
      ends-so (Finished final looks) run
      ∙ ap (λ (x : Certificate). let d : Decided Completion =
      Ok (record { certificate = x; looks = looks }) in d) same

-- a stop that is not refused stops all the same
refused-free : {A B : Type 0} (cause : Option Refusal) (x : A) (says : Decided B) →
    IsRefused cause (let d : Decided A = Ok x in d) → IsRefused cause says
refused-free None x says h = tt
refused-free (Some refusal) x says h = absurd (cc)

module _ (c : Certificate) (parts : AreParts c) (valid : IsValid c) where
  -- a valid certificate is judged right
  pub judged-right : judged c ≡ Ok c
  judged-right = ap (judged_by c) (none-valid c parts valid)

  -- so its judging gives it back
  pub judged-same : (found : Certificate) → judged c ≡ Ok found → c ≡ found
  judged-same found e = by (sym judged-right ∙ e)
    where
      by : (let d : Decided Certificate = Ok c in d) ≡ Ok found → c ≡ found
      by f = cc

  -- and stops for want of memory alone
  pub judged-stops : {B : Type 0} (stop : Stop) (says : Decided B) →
      IsRefused (stop_cause stop) (judged c) → IsRefused (stop_cause stop) says
  judged-stops stop says h =
      refused-free (stop_cause stop) c says (subst (IsRefused (stop_cause stop)) judged-right h)
