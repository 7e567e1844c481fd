-- The run of the matrix of one margin and two cells with entries 1: one look, and three rules; its
-- reduced basis, and the certificate that is made of it.
use Rattle.std.specs.Prelude.{List, [], negsuc, pos, ◌∷◌}
use Rattle.mb_certificate.specs.Certificate.{Certificate}
use Rattle.mb_completion.specs.Basis.{IsReducedBasis}
use Rattle.mb_completion.specs.Premises.{AreTwoOfAClass, IsAtEnd, IsMadeOfBasis, PremisesHold}
use Rattle.mb_completion.specs.Run.{Finished, RunEnds}
use Rattle.mb_matrix.specs.Matrix.{Design}
use Rattle.mb_order.specs.Rewriting.{Rule}
use Rattle.mb_order.specs.declared.order.Order.TheVariants.{Grevlex}

-- the matrix
abbrev pub sample_matrix : Design
sample_matrix = record { rows = 1; columns = (1 ∷ []) ∷ (1 ∷ []) ∷ [] }

-- the rules at the end
abbrev pub sample_final : List Rule
sample_final =
    (1 ∷ 0 ∷ 0 ∷ [], 0 ∷ 1 ∷ 0 ∷ []) ∷ (1 ∷ 0 ∷ 0 ∷ [], 0 ∷ 0 ∷ 1 ∷ [])
    ∷ (0 ∷ 1 ∷ 0 ∷ [], 0 ∷ 0 ∷ 1 ∷ []) ∷ []

-- its reduced basis
abbrev pub sample_basis : List Rule
sample_basis = (0 ∷ 1 ∷ 0 ∷ [], 0 ∷ 0 ∷ 1 ∷ []) ∷ (1 ∷ 0 ∷ 0 ∷ [], 0 ∷ 0 ∷ 1 ∷ []) ∷ []

-- the certificate made of it
abbrev pub sample_certificate : Certificate
sample_certificate = record {
  matrix = sample_matrix;
  order = Grevlex;
  moves = (pos 1 ∷ negsuc 0 ∷ []) ∷ [];
  rules = sample_basis;
  starts =
      (record { margin_steps = 1 ∷ []; cell_steps = 0 ∷ [] })
      ∷ (record { margin_steps = 1 ∷ []; cell_steps = [] }) ∷ [];
  joins = [];
  paths = (record { rule = 0; steps = negsuc 0 ∷ [] }) ∷ [];
}

-- with a budget of one look the run is finished with these
abbrev pub SampleRun : Type 0
SampleRun = RunEnds sample_matrix Grevlex 1 (Finished sample_final 1)

-- and the reduced basis of the matrix is this
abbrev pub SampleBasis : Type 0
SampleBasis = IsReducedBasis sample_matrix Grevlex sample_basis

-- no premise of the laws of completion is out of reach: the run, its basis and the certificate
-- meet them all
pub record SampleMeetsPremises : Type 0 where
  pub run : PremisesHold sample_matrix Grevlex 1 sample_final 1 sample_basis
  -- the symbol of the last cell
  pub end : IsAtEnd sample_matrix sample_final (0 ∷ 0 ∷ 1 ∷ [])
  -- to which those of the margin and of the first cell lead
  pub one_form : AreTwoOfAClass sample_matrix sample_basis (1 ∷ 0 ∷ 0 ∷ []) (0 ∷ 1 ∷ 0 ∷ [])
      (0 ∷ 0 ∷ 1 ∷ []) (0 ∷ 0 ∷ 1 ∷ []) (1 ∷ []) (0 ∷ [])
  pub made_is_valid : IsMadeOfBasis sample_certificate
