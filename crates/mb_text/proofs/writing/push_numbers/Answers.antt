use Rattle.mb_text.proofs.JoinSteps.{numbers_added}
use Rattle.mb_text.proofs.writing.push_numbers.Goals as goal

pub returns-in_ok-push_spaced : goal.returns-in_ok-push_spaced
returns-in_ok-push_spaced g c =
    numbers_added g.I.Integer.text c.args.out.now.items _ _ c.args.numbers.now c.in-Some.first.now
    c.in-Some.others.now c.in-Some.ensures.cases.0 c.in_ok-push_number.ensures
    c.in_ok-push_spaced.ensures
