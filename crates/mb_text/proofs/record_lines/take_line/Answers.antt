use Rattle.mb_text.proofs.PieceCases.{first_line_is, some_piece}
use Rattle.mb_text.proofs.record_lines.take_line.Goals as goal

pub returns-in-Some : goal.returns-in-Some
returns-in-Some c = first_line_is _ _ _ _ c.in-Some.ensures.cut (some_piece 10 c.in-Some.rest.now)
