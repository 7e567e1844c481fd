use Rattle.std.proofs.Common.{map}
use Rattle.mb_text.proofs.JoinSteps.{line_added}
use Rattle.mb_text.proofs.writing.push_line.Goals as goal

pub returns : goal.returns
returns g c =
    line_added c.args.out.now.items _ _ (map g.I.Integer.text c.args.numbers.now)
    c.in_ok-push_numbers.ensures c.in_ok-push.ensures.items
