-- The laws of completion: from a finished run to the reduced basis.
use Rattle.std.specs.Prelude.{List, length, ℕ, ◌↔◌, ◌≡◌}
use Rattle.mb_certificate.specs.Certificate.{Certificate}
use Rattle.mb_certificate.specs.Valid.{IsValid}
use Rattle.mb_completion.specs.Basis.{IsReducedBasis}
use Rattle.mb_completion.specs.CertificateOf.{certificate_of_run}
use Rattle.mb_completion.specs.Made.{AreNormalJoins, AreNormalStarts, moves_of, paths_of}
use Rattle.mb_completion.specs.Outcome.{outcome_of}
use Rattle.mb_completion.specs.Run.{AreLightPeaks, Finished, Outcome, RunEnds}
use Rattle.mb_matrix.specs.Fiber.{AreColumns, margins}
use Rattle.mb_matrix.specs.MarkovBasis.{IsMarkovBasis}
use Rattle.mb_matrix.specs.Matrix.{Design, IsDesign}
use Rattle.mb_order.specs.Monomial.{Monomial}
use Rattle.mb_order.specs.Order.{monomial_cmp}
use Rattle.mb_order.specs.Peak.{PairsMeet}
use Rattle.mb_order.specs.Rewriting.{AreValid, Rule}
use Rattle.mb_order.specs.Weight.{symbols}
use Rattle.mb_order.specs.declared.order.Order.{Order}
use Rattle.mb_rules.specs.Classes.{IsLeast, ReachLeast}
use Rattle.mb_rules.specs.Elimination.{StartsMeet}
use Rattle.mb_rules.specs.NormalForm.{IsIrreducible, NormalBy}
use Rattle.mb_rules.specs.ReducedBasis.{IsCorner, IsMinimalLeft, IsReduced, IsReduction, LeftsAscend}
use Rattle.mb_rules.specs.RuleList.{ValidRules}

-- where pairs and starts meet, each monomial leads to the least of its class, and one that no
-- rule fits is that (a Gröbner basis)
abbrev pub Completion : Type 0
Completion =
    (order : Order) (d : ℕ) (columns : List (List ℕ)) (rules : List Rule) →
    AreColumns d columns → AreValid d (symbols d columns) (monomial_cmp order d) rules →
    PairsMeet rules → StartsMeet d columns rules →
    ReachLeast d (symbols d columns) (monomial_cmp order d) rules
    × ((m : Monomial) → length m ≡ length (symbols d columns) → IsIrreducible rules m →
    IsLeast d (symbols d columns) (monomial_cmp order d) m)

-- of such rules the minimal left sides are the corners
abbrev pub Corners : Type 0
Corners =
    (order : Order) (d : ℕ) (columns : List (List ℕ)) (rules : List Rule) →
    AreColumns d columns → AreValid d (symbols d columns) (monomial_cmp order d) rules →
    ReachLeast d (symbols d columns) (monomial_cmp order d) rules →
    (l : Monomial) →
    IsCorner d (symbols d columns) (monomial_cmp order d) l ↔ IsMinimalLeft rules l

-- reducing such rules gives the reduced basis
abbrev pub Reduction : Type 0
Reduction =
    (order : Order) (d : ℕ) (columns : List (List ℕ)) (rules kept : List Rule) →
    AreColumns d columns → AreValid d (symbols d columns) (monomial_cmp order d) rules →
    ReachLeast d (symbols d columns) (monomial_cmp order d) rules → IsReduction rules kept →
    IsReduced d (symbols d columns) (monomial_cmp order d) kept

-- the rules of the reduced basis are valid, lead each monomial to the least of its class, and
-- their pairs and starts meet
abbrev pub Reduced : Type 0
Reduced =
    (order : Order) (d : ℕ) (columns : List (List ℕ)) (rules : List Rule) →
    AreColumns d columns → IsReduced d (symbols d columns) (monomial_cmp order d) rules →
    AreValid d (symbols d columns) (monomial_cmp order d) rules
    × ReachLeast d (symbols d columns) (monomial_cmp order d) rules
    × PairsMeet rules × StartsMeet d columns rules

-- by the reduced basis, monomials of equal weight have one normal form
abbrev pub OneForm : Type 0
OneForm =
    (order : Order) (d : ℕ) (columns : List (List ℕ)) (rules : List Rule) →
    AreColumns d columns → IsReduced d (symbols d columns) (monomial_cmp order d) rules →
    (a b p q : Monomial) (s t : List ℕ) → length a ≡ length (symbols d columns) →
    length b ≡ length (symbols d columns) →
    margins d (symbols d columns) a ≡ margins d (symbols d columns) b →
    NormalBy rules s a p → NormalBy rules t b q → p ≡ q

-- there is one reduced basis: two lists of it that ascend by left side are equal
abbrev pub OneReduced : Type 0
OneReduced =
    (order : Order) (d : ℕ) (columns : List (List ℕ)) (some others : List Rule) →
    AreColumns d columns →
    IsReduced d (symbols d columns) (monomial_cmp order d) some →
    LeftsAscend (monomial_cmp order d) some →
    IsReduced d (symbols d columns) (monomial_cmp order d) others →
    LeftsAscend (monomial_cmp order d) others → some ≡ others

-- the rules of a finished run are valid, and their pairs and starts meet
abbrev pub FinishedRun : Type 0
FinishedRun =
    (matrix : Design) (order : Order) (pairs : ℕ) (final : List Rule) (looks : ℕ) →
    IsDesign matrix → RunEnds matrix order pairs (Finished final looks) →
    ValidRules order matrix final × PairsMeet final
    × StartsMeet matrix.rows matrix.columns final

-- the peaks of a finished run are not too heavy
abbrev pub LightPeaks : Type 0
LightPeaks =
    (matrix : Design) (order : Order) (pairs : ℕ) (final : List Rule) (looks : ℕ) →
    IsDesign matrix → RunEnds matrix order pairs (Finished final looks) →
    AreLightPeaks matrix final

-- a run has one end, so each answer comes exactly where the run ends so
abbrev pub OneOutcome : Type 0
OneOutcome =
    (matrix : Design) (order : Order) (pairs : ℕ) (a b : Outcome) → IsDesign matrix →
    RunEnds matrix order pairs a → RunEnds matrix order pairs b → a ≡ b

-- and this end can be computed
abbrev pub OutcomeIsComputed : Type 0
OutcomeIsComputed =
    (matrix : Design) (order : Order) (pairs : ℕ) (end : Outcome) → IsDesign matrix →
    RunEnds matrix order pairs end ↔ (outcome_of matrix order pairs ≡ end)

-- where a run is finished, its rules make a valid certificate
abbrev pub FinishedIsCertified : Type 0
FinishedIsCertified =
    (matrix : Design) (order : Order) (pairs : ℕ) (final : List Rule) (looks : ℕ) →
    IsDesign matrix → RunEnds matrix order pairs (Finished final looks) →
    (c : Certificate) × (c.matrix ≡ matrix) × (c.order ≡ order) × (c.rules ≡ final)
    × IsValid c × IsMarkovBasis matrix c.moves

-- the parts of a certificate are those that are made of its rules
pub record IsMade (c : Certificate) : Type 0 where
  pub moves : c.moves ≡ moves_of c.matrix.rows c.rules
  pub starts : AreNormalStarts c.matrix c.rules c.starts
  pub joins : AreNormalJoins c.rules c.joins
  pub paths : c.paths ≡ paths_of c.matrix.rows c.rules

-- such a certificate is valid where its rules are the reduced basis and no peak is too heavy
abbrev pub MadeIsValid : Type 0
MadeIsValid =
    (c : Certificate) → IsDesign c.matrix → IsReducedBasis c.matrix c.order c.rules →
    AreLightPeaks c.matrix c.rules → IsMade c → IsValid c

-- and where they are the reduced basis of a finished run, it is the one that is computed of the run
abbrev pub MadeIsOne : Type 0
MadeIsOne =
    (c : Certificate) (pairs : ℕ) (final : List Rule) (looks : ℕ) → IsDesign c.matrix →
    RunEnds c.matrix c.order pairs (Finished final looks) →
    IsReducedBasis c.matrix c.order c.rules → IsMade c →
    c ≡ certificate_of_run c.matrix c.order final
