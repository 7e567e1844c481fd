use Rattle.std.proofs.Common.{map, ◌∷◌}
use Rattle.mb_text.proofs.JoinSteps.{joined_added, line_added}
use Rattle.mb_text.proofs.writing.push_word_line.Goals as goal

pub returns : goal.returns
returns g c =
    let text = g.I.Integer.text in
    line_added c.args.out.now.items _ _ (c.args.word.now ∷ map text c.args.numbers.now)
    (joined_added text c.args.out.now.items _ _ c.args.word.now c.args.numbers.now
    c.in_ok-push_text.ensures c.in_ok-push_spaced.ensures)
    c.in_ok-push.ensures.items
