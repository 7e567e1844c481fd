use Rattle.std.proofs.Common.{ap, arith, length, sym, ◌+◌, ◌∙◌}
use Rattle.std.proofs.Common.{Ok}
use Rattle.mb_certificate.proofs.PieceCases.{counted_on, first_line_is, some_byte}
use Rattle.mb_certificate.specs.Reading.{next_line}
use Rattle.mb_text.proofs.PieceCases.{some_piece}
use Rattle.mb_text.specs.Lines.{lines}
use Rattle.mb_certificate.proofs.lines.Lines.next.Goals as goal

pub overflow_add-self : goal.overflow_add-self
overflow_add-self c =
    let on =
    counted_on c.self.inside.number c.self.inside.text.now c.in-Some.line.now c.in-Some.rest.now
    c.self.invariant c.in-Some.ensures.cut
    (some_byte (length c.in-Some.line.now) c.is_empty.result c.is_empty.ensures
    c.if-not-is_empty.true) in
    let fits = on.fits in
    omega arith

pub invariant_of-self : goal.invariant_of-self
invariant_of-self c =
    counted_on c.self.inside.number c.self.inside.text.now c.in-Some.line.now c.in-Some.rest.now
    c.self.invariant c.in-Some.ensures.cut
    (some_byte (length c.in-Some.line.now) c.is_empty.result c.is_empty.ensures
    c.if-not-is_empty.true)

pub returns-in-Some : goal.returns-in-Some
returns-in-Some c =
    ap next_line (sym c.self.view_is)
    ∙ first_line_is c.self.inside.number (lines c.self.inside.text.now) c.in-Some.line.now
    (lines c.in-Some.rest.now) c.in-Some.ensures.cut
    (some_byte (length c.in-Some.line.now) c.is_empty.result c.is_empty.ensures
    c.if-not-is_empty.true)
    (some_piece 10 c.in-Some.rest.now)
    ∙ ap (λ items. Ok (
      items,
      record {
        number = c.self.inside.number + 1;
        pieces =
            lines c.in-Some.rest.now;
      },
    )) (sym c.of-items.ensures)
