use Rattle.std.proofs.Common.{sym}
use Rattle.mb_text.proofs.PieceCases.{only-more, some_piece}
use Rattle.mb_text.specs.Lines.{items}
use Rattle.mb_text.proofs.line_forms.only_item.Goals as goal

pub returns-in-Some : goal.returns-in-Some
returns-in-Some c =
    sym (only-more (items c.args.line.now) c.in-Some.field-0.0.now (items c.in-Some.field-0.1.now)
    c.in-Some.ensures.cut (some_piece 32 c.in-Some.field-0.1.now))
