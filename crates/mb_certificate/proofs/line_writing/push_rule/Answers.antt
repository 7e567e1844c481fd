use Rattle.std.proofs.Common.{arith, length, subst, sym, ◌≤◌}
use Rattle.mb_certificate.proofs.WrittenParts.{rule_written}
use Rattle.mb_certificate.specs.Sides.{sides}
use Rattle.mb_certificate.proofs.line_writing.push_rule.Goals as goal

pub returns : goal.returns
returns c =
    let shape = c.as_slice.ensures.sound in
    rule_written c.args.out.now.items c.push_numbers.new.out.items c.push_text.new.out.items
    c.push_spaced.new.out.items c.push.new.self.items c.as_slice.result.now
    c.as_slice-2.result.now (sides c.args.pair.now)
    c.as_slice.ensures.exponents c.as_slice-2.ensures.exponents
    (subst (λ list. 1 ≤ length list) (sym c.as_slice.ensures.exponents)
    (let some = shape.some_cells in omega arith))
    c.in_ok-push_numbers.ensures c.in_ok-push_text.ensures c.in_ok-push_spaced.ensures
    c.in_ok-push.ensures.items
