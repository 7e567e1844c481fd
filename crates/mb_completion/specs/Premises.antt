-- What the laws of completion ask of a run, of the reduced basis and of a certificate.
use Rattle.std.specs.Prelude.{List, length, ℕ, ◌≡◌, ◌≢◌}
use Rattle.mb_certificate.specs.Certificate.{Certificate}
use Rattle.mb_completion.specs.Basis.{IsReducedBasis}
use Rattle.mb_completion.specs.Laws.{IsMade}
use Rattle.mb_completion.specs.Run.{AreLightPeaks, Finished, RunEnds}
use Rattle.mb_matrix.specs.Fiber.{AreColumns}
use Rattle.mb_matrix.specs.Matrix.{Design, IsDesign}
use Rattle.mb_order.specs.Monomial.{Monomial}
use Rattle.mb_order.specs.Peak.{PairsMeet}
use Rattle.mb_order.specs.Rewriting.{Rule}
use Rattle.mb_order.specs.Weight.{symbols_of, weights}
use Rattle.mb_order.specs.declared.order.Order.{Order}
use Rattle.mb_rules.specs.Classes.{ReachLeast}
use Rattle.mb_rules.specs.Elimination.{StartsMeet}
use Rattle.mb_rules.specs.NormalForm.{IsIrreducible, NormalBy}
use Rattle.mb_rules.specs.ReducedBasis.{IsReduced, IsReduction, LeftsAscend}
use Rattle.mb_rules.specs.RuleList.{ValidRules, cmp_of}

-- the premises of the laws from a finished run to the reduced basis, one by one in the order of
-- each law
pub record PremisesHold
    (matrix : Design) (order : Order) (pairs : ℕ) (final : List Rule) (looks : ℕ)
    (basis : List Rule) : Type 0 where
  -- and those of `LightPeaks`, and of `OneOutcome` for this end twice
  pub finished_run : IsDesign matrix
      × RunEnds matrix order pairs (Finished final looks)
  pub completion : AreColumns matrix.rows matrix.columns
      × ValidRules order matrix final
      × PairsMeet final
      × StartsMeet matrix.rows matrix.columns final
  pub corners : AreColumns matrix.rows matrix.columns
      × ValidRules order matrix final
      × ReachLeast matrix.rows (symbols_of matrix) (cmp_of order matrix) final
  pub reduction : AreColumns matrix.rows matrix.columns
      × ValidRules order matrix final
      × ReachLeast matrix.rows (symbols_of matrix) (cmp_of order matrix) final
      × IsReduction final basis
  pub reduced : AreColumns matrix.rows matrix.columns
      × IsReduced matrix.rows (symbols_of matrix) (cmp_of order matrix) basis
  -- for this list twice
  pub one_reduced : AreColumns matrix.rows matrix.columns
      × IsReduced matrix.rows (symbols_of matrix) (cmp_of order matrix) basis
      × LeftsAscend (cmp_of order matrix) basis

-- the further premises of the second part of `Completion`: no rule fits the monomial
pub record IsAtEnd (matrix : Design) (rules : List Rule) (m : Monomial) : Type 0 where
  pub wide : length m ≡ length (symbols_of matrix)
  pub irreducible : IsIrreducible rules m

-- the further premises of `OneForm`: traces that lead two monomials of a class, which differ, to
-- normal forms
pub record AreTwoOfAClass
    (matrix : Design) (rules : List Rule) (a b p q : Monomial) (s t : List ℕ) : Type 0 where
  pub first_wide : length a ≡ length (symbols_of matrix)
  pub second_wide : length b ≡ length (symbols_of matrix)
  pub equal_weight : weights matrix a ≡ weights matrix b
  pub first_normal : NormalBy rules s a p
  pub second_normal : NormalBy rules t b q
  pub differ : a ≢ b

-- the premises of `MadeIsValid`
pub record IsMadeOfBasis (c : Certificate) : Type 0 where
  pub design : IsDesign c.matrix
  pub basis : IsReducedBasis c.matrix c.order c.rules
  pub light : AreLightPeaks c.matrix c.rules
  pub made : IsMade c
