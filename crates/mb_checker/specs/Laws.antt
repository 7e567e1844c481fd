-- The laws of valid certificates (Diaconis and Sturmfels 1998).
use Rattle.std.specs.Prelude.{[], ◌∷◌}
use Rattle.mb_certificate.specs.Certificate.{AreParts, Certificate}
use Rattle.mb_certificate.specs.Valid.{IsValid}
use Rattle.mb_checker.specs.Premises.{IsInstance, PremisesHold}
use Rattle.mb_checker.specs.Samples.{with_joins, without_joins}
use Rattle.mb_matrix.specs.MarkovBasis.{IsMarkovBasis}

-- the moves of a valid certificate are a Markov basis of its matrix
abbrev pub ValidIsMarkov : Type 0
ValidIsMarkov = (c : Certificate) → AreParts c → IsValid c → IsMarkovBasis c.matrix c.moves

-- a certificate in the shapes of its text that is valid
pub record IsSample (c : Certificate) : Type 0 where
  pub parts : AreParts c
  pub valid : IsValid c

-- both samples are: no premise of the law above is out of reach
pub record SamplesAreValid : Type 0 where
  pub without : IsSample without_joins
  pub with : IsSample with_joins

-- the parts of a valid certificate meet the premises of each law of rewriting
abbrev pub ValidMeetsPremises : Type 0
ValidMeetsPremises =
    (c : Certificate) → AreParts c → IsValid c →
    PremisesHold c.order c.matrix.rows c.matrix.columns c.rules c.moves

-- so both samples do, and the laws say something of them. Without joins: from t x x rules lead to
-- t y and to x x x, and the tables 4 0 and 0 2 have equal margins. With joins: from x x y, a peak,
-- to x z and to y y; the tables 3 0 0 and 0 0 1, with 1 1 0 on the way
pub record SamplesMeetPremises : Type 0 where
  pub without : IsInstance without_joins
      (1 ∷ 2 ∷ 0 ∷ []) (1 ∷ 0 ∷ 1 ∷ []) (0 ∷ 3 ∷ 0 ∷ []) (4 ∷ 0 ∷ []) (0 ∷ 2 ∷ [])
  pub with : IsInstance with_joins
      (0 ∷ 2 ∷ 1 ∷ 0 ∷ []) (0 ∷ 1 ∷ 0 ∷ 1 ∷ []) (0 ∷ 0 ∷ 2 ∷ 0 ∷ [])
      (3 ∷ 0 ∷ 0 ∷ []) (0 ∷ 0 ∷ 1 ∷ [])
