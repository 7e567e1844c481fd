use Rattle.std.proofs.Common.{List, ap, arith, get_or, length, refl, ℕ, ◌*◌, ◌+◌, ◌∙◌, ◌≡◌, drop, ◌≤◌}
use Rattle.mb_matrix.specs.Key.{number}
use Rattle.mb_matrix.specs.declared.digit.Digit.{Digit}
use Rattle.mb_matrix.proofs.Digits.{NumberStep, PlaceStep, none, number-drop_all, number-most, number_step, place_step}
use Rattle.mb_matrix.proofs.keys.number_of.Goals as goal

-- the digit that the body reads
abbrev digit : (c : goal.After-from) → Digit
digit c = get_or c.args.digits.now c.loop-digit.digit-index none

-- its place value fits, and so does the next
place : (c : goal.After-from) →
    PlaceStep c.args.digits.now c.loop-digit.digit-index (digit c) c.loop-digit.place
place c =
    place_step c.args.digits.now c.loop-digit.digit-index (digit c) none c.loop-digit.place
    c.loop-digit-test.true refl c.loop-digit.invariant.placed c.requires.few

-- and so does the sum with this digit
step : (c : goal.After-from) →
    NumberStep c.args.digits.now c.args.counts.now c.loop-digit.digit-index (digit c)
    c.loop-digit.sum c.loop-digit.place c.from.result
step c =
    number_step c.args.digits.now c.args.counts.now c.loop-digit.digit-index (digit c) none
    c.loop-digit.sum c.loop-digit.place c.from.result c.loop-digit-test.true refl c.from.ensures
    c.requires.suits c.loop-digit.invariant.so_far c.requires.few

pub overflow_mul-sum : goal.overflow_mul-sum
overflow_mul-sum c = let p = (step c).product in omega arith

pub overflow_add-sum : goal.overflow_add-sum
overflow_add-sum c = let p = (step c).total in omega arith

pub overflow_add-place : goal.overflow_add-place
overflow_add-place c = let p = (place c).radix in omega arith

pub overflow_mul-place : goal.overflow_mul-place
overflow_mul-place c = let p = (place c).next in omega arith

pub loop-digit-preserved : goal.loop-digit-preserved
loop-digit-preserved c = record { so_far = (step c).so_far; placed = (place c).placed }

-- at the end of the loop the number is whole
whole : (digits : List Digit) (u : List ℕ) (k sum place : ℕ) → length digits ≤ k →
    sum + place * number (drop k digits) u ≡ number digits u → sum ≡ number digits u
whole digits u k sum place h e =
    let f : place * number (drop k digits) u ≡ 0 =
    ap (λ n. place * n) (number-drop_all digits u k h) ∙ omega arith in
    omega arith

pub returns-clause-number : goal.returns-clause-number
returns-clause-number c =
    whole c.args.digits.now c.args.counts.now c.loop-digit.digit-index c.loop-digit.sum
    c.loop-digit.place c.loop-digit-test.false c.loop-digit.invariant.so_far

pub returns-clause-below : goal.returns-clause-below
returns-clause-below c =
    let e = whole c.args.digits.now c.args.counts.now c.loop-digit.digit-index c.loop-digit.sum
    c.loop-digit.place c.loop-digit-test.false c.loop-digit.invariant.so_far in
    let f = number-most c.args.digits.now c.args.counts.now c.requires.suits in
    omega arith
