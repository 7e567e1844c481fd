-- Each row is a move, or the first that is none is named.
use Rattle.std.proofs.Common.{Ok, ap, sym, ◌∙◌, ℕ}
use Rattle.mb_desk.proofs.Verdicts.{judged-all, judged-wrong}
use Rattle.mb_desk.specs.Decision.{Decided}
use Rattle.mb_desk.proofs.judging.count_judged.Goals as goal

abbrev counts : ℕ → Decided ℕ
counts count = Ok count

pub returns-in-Some-clause-count : goal.returns-in-Some-clause-count
returns-in-Some-clause-count c =
    judged-wrong c.args.matrix.now c.args.moves.now c.in-Some.row
    (sym c.width.ensures.width ∙ c.if-width.false ∙ c.width-2.ensures.width)
    c.in-Some.ensures.some.0 c.in-Some.ensures.some.1 c.in-Some.ensures.first

pub returns-in-None-clause-count : goal.returns-in-None-clause-count
returns-in-None-clause-count c =
    judged-all c.args.matrix.now c.args.moves.now
    (sym c.width.ensures.width ∙ c.if-width.false ∙ c.width-2.ensures.width) c.in-None.ensures.none
    ∙ ap counts (sym c.len.ensures.moves)
