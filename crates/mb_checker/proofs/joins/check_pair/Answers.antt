use Rattle.std.proofs.Common.{Some, ap, sym, ◌∙◌}
use Rattle.mb_certificate.specs.FirstFault.{join_lines}
use Rattle.mb_checker.proofs.JoinLines.{met-counted, met-passed, met-turn}
use Rattle.mb_checker.proofs.JudgedLines.{first-wrong}
use Rattle.mb_checker.proofs.joins.check_pair.Goals as goal

pub returns-then-not-is_shared-clause-met : goal.returns-then-not-is_shared-clause-met
returns-then-not-is_shared-clause-met c =
    met-passed c.args.certificate.now c.args.low c.args.high c.args.next c.requires.met
    (sym c.is_shared.ensures ∙ c.if-not-is_shared.true)

pub pair_fault-requires-clause-turn : goal.pair_fault-requires-clause-turn
pair_fault-requires-clause-turn c =
    met-turn c.args.certificate.now c.args.low c.args.high c.args.next c.requires.met
    c.requires.low c.requires.high (sym c.is_shared.ensures ∙ c.if-not-is_shared.false)

pub returns-in-Some-clause-wrong : goal.returns-in-Some-clause-wrong
returns-in-Some-clause-wrong c =
    first-wrong c.args.line (join_lines c.args.certificate.now) c.args.next c.in-Some.reason
    c.requires.met.right (c.pair_fault.ensures.line ∙ ap Some c.in-Some.is)

pub returns-clause-met : goal.returns-clause-met
returns-clause-met c =
    met-counted c.args.certificate.now c.args.low c.args.high c.args.next c.requires.met
    (sym c.is_shared.ensures ∙ c.if-not-is_shared.false)
    (c.pair_fault.ensures.line ∙ ap Some c.in_default.is)
    (c.pair_fault.ensures.there c.in_default.is)
