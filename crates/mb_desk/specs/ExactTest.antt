-- The exact test of a table given its margins, and the call that makes one of a certificate.
use Rattle.std.specs.Prelude.{Err, List, None, Ok, Option, Result, Some, if◌then◌else◌, length, map, nat_lt, slice_get, ℕ, ℤ, ◌+◌, ◌^◌, ◌↔◌, ◌≡◌}
use Rattle.mb_certificate.specs.Certificate.{Certificate}
use Rattle.mb_certificate.specs.FirstFault.{first_fault}
use Rattle.mb_certificate.specs.declared.line_fault.Fault.{Fault}
use Rattle.mb_desk.specs.declared.exact_test.Figures.{Figures}
use Rattle.mb_desk.specs.declared.exact_test.NumbersFault.{NumbersFault}
use Rattle.mb_desk.specs.declared.exact_test.NumbersFault.TheVariants as faults
use Rattle.mb_matrix.specs.Ascending.{occurrences}
use Rattle.mb_matrix.specs.MarkovBasis.{IsMarkovBasis}
use Rattle.mb_matrix.specs.Matrix.{Design, fiber_of}
use Rattle.mb_matrix.specs.Measure.{Weighting}
use Rattle.mb_rings.specs.Distance.{IsAtDistance}
use Rattle.mb_rings.specs.Ring.{Ring, rings_of, tables_of}
use Rattle.mb_tables.specs.Answers.{◌>>=◌}
use Rattle.mb_tables.specs.Lists.{In}
use Rattle.mb_weights.specs.PValue.{Fraction, exact_p_value}
use Rattle.mb_weights.specs.Weight.{weight_of}
use Rattle.mb_weights.specs.declared.p_value.Weighed.{Weighed}

-- ---- what an exact test is

-- ring k has the tables at distance k from the start in the fiber graph, and no others
abbrev pub HasDistances : List (List ℤ) → List ℕ → List Ring → Type 0
HasDistances moves start rings =
    (k : ℕ) (ring : Ring) → slice_get rings k ≡ Some ring →
    (v : List ℕ) → In v ring ↔ IsAtDistance moves start k v

-- the exact test of an observed table by a Markov basis of the model (Diaconis and Sturmfels 1998)
pub record IsExactTest (matrix : Design) (moves : List (List ℤ)) (measure : Weighting)
    (observed : List ℕ) (rings : List Ring) (fraction : Fraction) : Type 0 where
  -- the moves join any two tables of equal margins, by tables of counts that aren't below 0
  pub basis : IsMarkovBasis matrix moves
  -- each table of the observed table's fiber stands in exactly one ring, once
  pub once : (v : List ℕ) → In v (fiber_of matrix observed) → occurrences v (tables_of rings) ≡ 1
  -- and no other table stands in one
  pub only : (v : List ℕ) → In v (tables_of rings) → In v (fiber_of matrix observed)
  -- the rings are by distance from the observed table
  pub distance : HasDistances moves observed rings
  -- the fraction is the summed weight of the tables of the fiber that are no likelier than the
  -- observed one, over that of all of them
  pub p_value : fraction ≡ exact_p_value matrix measure observed

-- ---- what `numbers` answers

-- no line of the certificate is to be wrong
abbrev pub accepted : Option Fault → Result (Unit {0}) NumbersFault
accepted None = Ok tt
accepted (Some fault) = Err (faults.Certificate fault.line fault.reason)

-- the fiber is to have no more tables than the limit
abbrev pub small_enough : ℕ → List (List ℕ) → Result (Unit {0}) NumbersFault
small_enough limit fiber =
    if nat_lt limit (length fiber) then Err (faults.TooLarge (limit + 1)) else Ok tt

-- its summed weight is to be below 2^128
abbrev pub narrow : Fraction → Result Fraction NumbersFault
narrow fraction = if nat_lt fraction.whole (2 ^ 128) then Ok fraction else Err faults.TooWide

-- the exact p-value of a table, of whose fiber no more than the limit is listed
abbrev pub tested : ℕ → Design → Weighting → List ℕ → Result Fraction NumbersFault
tested limit matrix measure observed = do
  few ← small_enough limit (fiber_of matrix observed)
  narrow (exact_p_value matrix measure observed)

-- the sizes of rings, the weight of the observed table, and the p-value
pub record Numbers : Type 0 where
  pub sizes : List ℕ
  pub weight : ℕ
  pub fraction : Fraction

-- the numbers of the exact test by the moves of a certificate: its lines are judged first, then the
-- fiber is counted, then its weights are summed
abbrev pub numbers_of : ℕ → Certificate → Weighting → List ℕ → Result Numbers NumbersFault
numbers_of limit c measure observed = do
  right ← accepted (first_fault c)
  fraction ← tested limit c.matrix measure observed
  Ok (record {
    sizes = map length (rings_of c.matrix c.moves observed);
    weight = weight_of measure observed;
    fraction = fraction;
  })

-- the fraction of sums that were weighed
abbrev pub weighed_fraction : Weighed → Fraction
weighed_fraction weighed = record { below = weighed.below; whole = weighed.whole }

-- the fraction of the figures
abbrev pub fraction_in : Figures → Fraction
fraction_in figures = record { below = figures.below; whole = figures.whole }

-- the figures as these numbers
abbrev pub numbers_in : Figures → Numbers
numbers_in figures = record {
  sizes = figures.rings.items;
  weight = figures.weight;
  fraction = fraction_in figures;
}

-- the cause of a refusal; want of memory has none
abbrev pub numbers_cause : NumbersFault → Option NumbersFault
numbers_cause faults.OutOfMemory = None
numbers_cause fault = Some fault

-- figures of an exact test: its rings have these sizes, and its fraction is this
abbrev pub AreFigures : Design → List (List ℤ) → Weighting → List ℕ → Figures → Type 0
AreFigures matrix moves measure observed figures =
    (rings : List Ring) × (figures.rings.items ≡ map length rings)
    × IsExactTest matrix moves measure observed rings (fraction_in figures)
