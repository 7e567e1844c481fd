use Rattle.std.proofs.Common.{List, ap, arith, drop, get_or, length, refl, subst, sym, ℕ, ◌*◌, ◌<◌, ◌^◌, ◌≡◌}
use Rattle.std.proofs.lemmas.List.{drop_all}
use Rattle.mb_matrix.specs.Key.{key_count}
use Rattle.mb_matrix.specs.declared.digit.Digit.{Digit}
use Rattle.mb_matrix.proofs.Digits.{PlaceStep, none, place_step}
use Rattle.mb_keyed.proofs.key_totals.key_total.Goals as goal

-- the radix of the digit at a place fits, and so does the number of keys with it
place : {keys digits : List Digit} {k total : ℕ} → digits ≡ keys → key_count keys < 2 ^ 64 →
    k < length digits → total * key_count (drop k digits) ≡ key_count digits →
    PlaceStep digits k (get_or digits k none) total
place {keys} {digits} {k} {total} same few h placed =
    place_step digits k (get_or digits k none) none total h refl placed
    (subst (λ t. key_count t < 2 ^ 64) (sym same) few)

pub overflow_add-total : goal.overflow_add-total
overflow_add-total c =
    let known = c.digits-digits.ensures in
    let p = place known.digits known.fits c.loop-digit-test.true c.loop-digit.invariant.placed in
    let radix = p.radix in omega arith

pub overflow_mul-total : goal.overflow_mul-total
overflow_mul-total c =
    let known = c.digits-digits.ensures in
    let p = place known.digits known.fits c.loop-digit-test.true c.loop-digit.invariant.placed in
    let next = p.next in omega arith

pub loop-digit-preserved : goal.loop-digit-preserved
loop-digit-preserved c =
    let known = c.digits-digits.ensures in
    let p = place known.digits known.fits c.loop-digit-test.true c.loop-digit.invariant.placed in
    record { placed = p.placed }

pub returns : goal.returns
unfolding key_count
returns c =
    let digits = c.digits-digits.result.now in
    let all : c.loop-digit.total * 1 ≡ key_count digits =
    subst (λ t. c.loop-digit.total * key_count t ≡ key_count digits)
    (drop_all c.loop-digit.digit-index digits c.loop-digit-test.false)
    c.loop-digit.invariant.placed in
    let whole = ap key_count c.digits-digits.ensures.digits in
    omega arith
