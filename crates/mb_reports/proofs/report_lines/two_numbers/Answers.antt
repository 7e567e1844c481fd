use Rattle.std.proofs.Common.{ap, sym, ◌∙◌, ◌∷◌}
use Rattle.mb_reports.proofs.ReportItems.{two_numbers-more}
use Rattle.mb_text.proofs.PieceCases.{some_piece}
use Rattle.mb_text.specs.Lines.{pieces}
use Rattle.mb_reports.proofs.report_lines.two_numbers.Goals as goal

pub returns-in-Some : goal.returns-in-Some
returns-in-Some c =
    sym (two_numbers-more (pieces 47 c.args.item.now) c.in_ok-below.below.now
    c.in-Some.field-0.0.now (pieces 47 c.in-Some.field-0.1.now)
    (c.in_ok-below.ensures.cut ∙ ap (λ ps. c.in_ok-below.below.now ∷ ps) c.in-Some.ensures.cut)
    (some_piece 47 c.in-Some.field-0.1.now))
