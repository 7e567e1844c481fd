use Rattle.std.proofs.Common.{ap, length, sym, ◌==◌, ◌∙◌}
use Rattle.mb_certificate.specs.Reading.{text_ends}
use Rattle.mb_text.proofs.PieceCases.{ends_not}
use Rattle.mb_certificate.proofs.lines.Lines.end.Goals as goal

pub returns-else-is_empty : goal.returns-else-is_empty
returns-else-is_empty c =
    ap text_ends (sym c.self.view_is)
    ∙ ends_not c.self.inside.number c.self.inside.text.now
    (λ none. let e = c.if-is_empty.ensures ∙ ap (λ text. length text == 0) none in cc)
