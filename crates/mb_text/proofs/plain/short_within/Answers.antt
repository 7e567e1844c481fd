use Rattle.std.proofs.Common.{ap, arith, drop, length, sym, ◌*◌, ◌+◌, ◌<◌, ◌≡◌, ◌∙◌}
use Rattle.std.proofs.lemmas.Bool.Decides.{nat_tests}
use Rattle.std.proofs.lemmas.List.{nil_from_length}
use Rattle.mb_text.specs.Numerals.{natural_after, natural_of}
use Rattle.mb_text.specs.Plain.{at_most}
use Rattle.mb_text.proofs.DigitSteps.{at_most-within, next_digit, too_large}
use Rattle.mb_text.proofs.NumberSteps.{natural_of-nil, natural_of-some, no_digit, no_more_digits}
use Rattle.mb_text.proofs.plain.short_within.Goals as goal

pub returns-then-is_empty : goal.returns-then-is_empty
returns-then-is_empty c =
    let size : length c.args.digits.now ≡ 0 = grind (arith, nat_tests) in
    ap (at_most c.args.highest) (sym (ap natural_of (nil_from_length c.args.digits.now size)
    ∙ natural_of-nil))

pub returns-then-not-is_digit : goal.returns-then-not-is_digit
returns-then-not-is_digit c =
    let some : 0 < length c.args.digits.now = omega arith in
    ap (at_most c.args.highest)
    (sym (no_digit c.args.digits.now c.loop-b.b-index c.loop-b.n c.loop-b-test.true cc)
    ∙ c.loop-b.invariant.left
    ∙ sym (natural_of-some c.args.digits.now some))

pub returns-then-longer-highest : goal.returns-then-longer-highest
returns-then-longer-highest c =
    let some : 0 < length c.args.digits.now = omega arith in
    sym (too_large c.args.highest _ _ (omega arith))
    ∙ ap (at_most c.args.highest)
    (sym (next_digit c.args.digits.now c.loop-b.b-index c.loop-b.n c.loop-b-test.true cc)
    ∙ c.loop-b.invariant.left
    ∙ sym (natural_of-some c.args.digits.now some))

pub loop-b-preserved : goal.loop-b-preserved
loop-b-preserved c =
    record {
      bound = omega arith;
      left = ap (λ digit. natural_after (c.loop-b.n * 10 + digit)
          (drop (c.loop-b.b-index + 1) c.args.digits.now)) c.from.ensures
          ∙ sym (next_digit c.args.digits.now c.loop-b.b-index c.loop-b.n c.loop-b-test.true cc)
          ∙ c.loop-b.invariant.left;
    }

pub returns : goal.returns
returns c =
    let some : 0 < length c.args.digits.now = grind (arith, nat_tests) in
    sym (at_most-within c.args.highest c.loop-b.n c.loop-b.invariant.bound)
    ∙ ap (at_most c.args.highest)
    (sym (no_more_digits c.args.digits.now c.loop-b.b-index c.loop-b.n c.loop-b-test.false)
    ∙ c.loop-b.invariant.left
    ∙ sym (natural_of-some c.args.digits.now some))
