-- From a finished run and its reduction to the reduced basis.
use Rattle.std.proofs.Common.{List, length, ℕ, ◌+◌}
use Rattle.mb_completion.proofs.Births.{finished_run}
use Rattle.mb_completion.proofs.MinimalLefts.{reduced_all_valid}
use Rattle.mb_completion.proofs.Reducing.{reduction}
use Rattle.mb_completion.specs.Run.{Finished, RunEnds}
use Rattle.mb_matrix.specs.Matrix.{Design, IsDesign}
use Rattle.mb_order.proofs.OrderLaws.{eliminates, is_order}
use Rattle.mb_order.proofs.WeightLaws.{symbols-fit}
use Rattle.mb_order.specs.Rewriting.{Rule}
use Rattle.mb_order.specs.Weight.{symbols_of}
use Rattle.mb_order.specs.declared.order.Order.{Order}
use Rattle.mb_rules.proofs.ClassesOfWeight.{classes_meet}
use Rattle.mb_rules.proofs.LeastOfClass.{reach_least}
use Rattle.mb_rules.specs.Classes.{ReachLeast}
use Rattle.mb_rules.specs.ReducedBasis.{IsReduced, IsReduction}
use Rattle.mb_rules.specs.RuleList.{ValidRules, cmp_of}

module _ (matrix : Design) (order : Order) (are : IsDesign matrix) where
  -- a finished run's rules lead to the least
  pub run_reaches : (budget : ℕ) (final : List Rule) (n : ℕ) →
      RunEnds matrix order budget (Finished final n) →
      ReachLeast matrix.rows (symbols_of matrix) (cmp_of order matrix) final
  run_reaches budget final n r =
      let d = matrix.rows in
      let columns = matrix.columns in
      let f = finished_run matrix order budget final n are r in
      let meet =
      classes_meet d columns (cmp_of order matrix) final are.each
      (is_order order d (d + length columns))
      (eliminates order d (d + length columns)) f.0 f.1 f.2 in
      reach_least d (symbols_of matrix) (cmp_of order matrix) (symbols-fit d columns are.each)
      (is_order order d (length (symbols_of matrix))) final f.0 meet

  -- the kept rules of a finished run are the reduced basis
  pub kept_reduced : (rules kept : List Rule) → ValidRules order matrix rules →
      ReachLeast matrix.rows (symbols_of matrix) (cmp_of order matrix) rules →
      IsReduction rules kept →
      IsReduced matrix.rows (symbols_of matrix) (cmp_of order matrix) kept
  kept_reduced rules kept valid reach h =
      reduction matrix.rows (symbols_of matrix) (cmp_of order matrix)
      (symbols-fit matrix.rows matrix.columns are.each)
      (is_order order matrix.rows (length (symbols_of matrix))) rules valid reach kept h

  -- they are valid
  pub kept_valid : (kept : List Rule) →
      IsReduced matrix.rows (symbols_of matrix) (cmp_of order matrix) kept →
      ValidRules order matrix kept
  kept_valid kept h =
      reduced_all_valid matrix.rows (symbols_of matrix) (cmp_of order matrix)
      (symbols-fit matrix.rows matrix.columns are.each)
      (is_order order matrix.rows (length (symbols_of matrix))) kept h
