-- The samples are valid: their lines have no fault, which computes. So their parts meet the
-- premises of the laws, each with a fork and two tables of a fiber.
use Rattle.std.proofs.Common.{None, [], ap, arith, refl, ◌∷◌, ◌≡◌}
use Rattle.mb_certificate.proofs.NoFaults.{valid-none}
use Rattle.mb_certificate.specs.Certificate.{AreParts}
use Rattle.mb_certificate.specs.FirstFault.{added, faults, faults_from, first_fault, first_from, replay, walk}
use Rattle.mb_checker.proofs.PartsByTests.{parts-by}
use Rattle.mb_checker.proofs.ValidCertificates.{premises-hold}
use Rattle.mb_checker.specs.Laws.{SamplesAreValid, SamplesMeetPremises}
use Rattle.mb_checker.specs.Premises.{AreTwoOfAFiber, IsFork}
use Rattle.mb_checker.specs.Samples.{with_joins, without_joins}
use Rattle.mb_matrix.specs.Fiber.{margins}
use Rattle.mb_order.specs.Order.{monomial_cmp}
use Rattle.mb_order.specs.Peak.{pairs_below}
use Rattle.mb_order.specs.Weight.{units_from}
use Rattle.mb_tables.specs.Margin.{move_margin}
use Rattle.mb_tables.specs.Vectors.{all_zero, at, greater, minus, plus, shares, times, unit, within, zeros}

-- no line of either is wrong
none_wrong : (first_fault without_joins ≡ None) × (first_fault with_joins ≡ None)
unfolding without_joins with_joins faults faults_from first_from replay added walk margins
    monomial_cmp pairs_below units_from move_margin all_zero greater minus plus shares times unit
    within zeros
none_wrong = (refl, refl)

-- each part of the first is in the shape of its text
first_parts : AreParts without_joins
unfolding without_joins all_zero
first_parts = parts-by without_joins refl refl refl refl refl refl refl
    (omega arith) (omega arith) (omega arith) (omega arith)

-- and each of the second
second_parts : AreParts with_joins
unfolding with_joins all_zero
second_parts = parts-by with_joins refl refl refl refl refl refl refl
    (omega arith) (omega arith) (omega arith) (omega arith)

-- both are valid
pub samples_valid : SamplesAreValid
samples_valid = record {
  without = record {
    parts = first_parts;
    valid = valid-none without_joins first_parts none_wrong.0;
  };
  with = record { parts = second_parts; valid = valid-none with_joins second_parts none_wrong.1 };
}

-- without joins: rules 0 and 1 take t x x to t y and to x x x
first_fork : IsFork 3 without_joins.rules (1 ∷ 2 ∷ 0 ∷ []) (1 ∷ 0 ∷ 1 ∷ []) (0 ∷ 3 ∷ 0 ∷ [])
unfolding without_joins plus
first_fork = record {
  wide = refl;
  first = (0, ((0 ∷ 2 ∷ 0 ∷ [], 0 ∷ 0 ∷ 1 ∷ []), 1 ∷ 0 ∷ 0 ∷ [], refl, refl, refl));
  second = (1, ((1 ∷ 0 ∷ 0 ∷ [], 0 ∷ 1 ∷ 0 ∷ []), 0 ∷ 2 ∷ 0 ∷ [], refl, refl, refl));
  differ = λ e. (let f : 1 ≡ 0 = ap (λ m. at m 0) e in omega arith);
}

-- with joins: rules 1 and 2 take their peak x x y to x z and to y y
second_fork : IsFork 4 with_joins.rules
    (0 ∷ 2 ∷ 1 ∷ 0 ∷ []) (0 ∷ 1 ∷ 0 ∷ 1 ∷ []) (0 ∷ 0 ∷ 2 ∷ 0 ∷ [])
unfolding with_joins plus
second_fork = record {
  wide = refl;
  first =
      (1, ((0 ∷ 1 ∷ 1 ∷ 0 ∷ [], 0 ∷ 0 ∷ 0 ∷ 1 ∷ []), 0 ∷ 1 ∷ 0 ∷ 0 ∷ [], refl, refl, refl));
  second =
      (2, ((0 ∷ 2 ∷ 0 ∷ 0 ∷ [], 0 ∷ 0 ∷ 1 ∷ 0 ∷ []), 0 ∷ 0 ∷ 1 ∷ 0 ∷ [], refl, refl, refl));
  differ = λ e. (let f : 1 ≡ 0 = ap (λ m. at m 1) e in omega arith);
}

-- the margin of 4 0 and of 0 2 is 4
first_tables : AreTwoOfAFiber 1 ((1 ∷ []) ∷ (2 ∷ []) ∷ []) (4 ∷ 0 ∷ []) (0 ∷ 2 ∷ [])
unfolding margins plus times zeros
first_tables = record {
  first_wide = refl;
  second_wide = refl;
  equal_margins = refl;
  differ = λ e. (let f : 4 ≡ 0 = ap (λ u. at u 0) e in omega arith);
}

-- that of 3 0 0 and of 0 0 1 is 3
second_tables : AreTwoOfAFiber 1 ((1 ∷ []) ∷ (2 ∷ []) ∷ (3 ∷ []) ∷ [])
    (3 ∷ 0 ∷ 0 ∷ []) (0 ∷ 0 ∷ 1 ∷ [])
unfolding margins plus times zeros
second_tables = record {
  first_wide = refl;
  second_wide = refl;
  equal_margins = refl;
  differ = λ e. (let f : 3 ≡ 0 = ap (λ u. at u 0) e in omega arith);
}

-- both meet the premises of the laws
pub samples_meet : SamplesMeetPremises
unfolding without_joins with_joins units_from
samples_meet = record {
  without = record {
    premises = premises-hold without_joins samples_valid.without.valid samples_valid.without.parts;
    fork = first_fork;
    tables = first_tables;
  };
  with = record {
    premises = premises-hold with_joins samples_valid.with.valid samples_valid.with.parts;
    fork = second_fork;
    tables = second_tables;
  };
}
