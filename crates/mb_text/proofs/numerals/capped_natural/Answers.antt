use Rattle.std.proofs.Common.{Some, ap, arith, length, sym, ◌<◌, ◌≡◌, ◌∙◌}
use Rattle.std.proofs.lemmas.Bool.Decides.{nat_tests}
use Rattle.std.proofs.lemmas.List.{nil_from_length}
use Rattle.std.specs.Option.{option_map}
use Rattle.mb_text.specs.loops.Capped.{capped}
use Rattle.mb_text.specs.Numerals.{natural_of}
use Rattle.mb_text.proofs.NumberSteps.{natural_of-nil, natural_of-some, no_digit, no_more_digits, one_more_digit}
use Rattle.mb_text.proofs.numerals.capped_natural.Goals as goal

pub returns-then-is_empty-clause-number : goal.returns-then-is_empty-clause-number
returns-then-is_empty-clause-number c =
    let size : length c.args.digits.now ≡ 0 = grind (arith, nat_tests) in
    ap (option_map capped) (sym (ap natural_of (nil_from_length c.args.digits.now size)
    ∙ natural_of-nil))

pub returns-then-not-is_digit-clause-number : goal.returns-then-not-is_digit-clause-number
returns-then-not-is_digit-clause-number c =
    let some : 0 < length c.args.digits.now = omega arith in
    ap (option_map capped)
    (sym (no_digit c.args.digits.now c.loop-b.b-index c.loop-b.n c.loop-b-test.true cc))
    ∙ c.loop-b.invariant.left
    ∙ ap (option_map capped) (sym (natural_of-some c.args.digits.now some))

pub loop-b-preserved : goal.loop-b-preserved
loop-b-preserved c = record {
  bound = omega arith;
  left = one_more_digit c.args.digits.now c.loop-b.b-index c.loop-b.n c.min-n.result
      c.loop-b-test.true (cc) (omega arith) ∙ c.loop-b.invariant.left;
}

pub returns-clause-number : goal.returns-clause-number
returns-clause-number c =
    let some : 0 < length c.args.digits.now = grind (arith, nat_tests) in
    let cut : capped c.loop-b.n ≡ c.loop-b.n = omega arith in
    ap Some (sym cut)
    ∙ ap (option_map capped)
    (sym (no_more_digits c.args.digits.now c.loop-b.b-index c.loop-b.n c.loop-b-test.false))
    ∙ c.loop-b.invariant.left
    ∙ ap (option_map capped) (sym (natural_of-some c.args.digits.now some))
