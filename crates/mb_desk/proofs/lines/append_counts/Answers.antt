-- The first count, and then each with a space before it.
use Rattle.std.specs.Fmt.{decimal}
use Rattle.mb_text.proofs.JoinSteps.{numbers_added}
use Rattle.mb_desk.proofs.lines.append_counts.Goals as goal

pub returns : goal.returns
returns c =
    numbers_added decimal _ _ _ c.args.counts.now c.in-Some.first.now c.in-Some.others.now
    c.in-Some.ensures.cases.0 c.in_ok-append_count.ensures c.in_ok-append_spaced.ensures
