use Rattle.std.proofs.Common.{sym}
use Rattle.mb_text.proofs.PieceCases.{after-some, some_piece}
use Rattle.mb_text.specs.Lines.{items}
use Rattle.mb_text.proofs.line_forms.rest_after.Goals as goal

pub returns-in-Some : goal.returns-in-Some
returns-in-Some c =
    sym (after-some c.args.word.now (items c.args.line.now) (items c.in-Some.rest.now)
    c.in-Some.ensures.some (some_piece 32 c.in-Some.rest.now))
