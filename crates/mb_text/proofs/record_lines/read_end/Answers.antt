use Rattle.std.proofs.Common.{ap, length, ◌==◌, ◌∙◌}
use Rattle.mb_text.proofs.PieceCases.{ends_not}
use Rattle.mb_text.proofs.record_lines.read_end.Goals as goal

pub returns-else-is_empty : goal.returns-else-is_empty
returns-else-is_empty c =
    ends_not c.args.number c.args.text.now
    (λ none. let e = c.if-is_empty.ensures ∙ ap (λ text. length text == 0) none in cc)
