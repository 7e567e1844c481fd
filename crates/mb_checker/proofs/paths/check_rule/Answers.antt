use Rattle.std.proofs.Common.{Some, ap, sym, ◌∙◌}
use Rattle.mb_certificate.specs.FirstFault.{path_lines}
use Rattle.mb_checker.proofs.JudgedLines.{first-wrong}
use Rattle.mb_checker.proofs.PathLines.{passed-counted, passed-over, passed-turn}
use Rattle.mb_checker.proofs.paths.check_rule.Goals as goal

pub returns-then-not-is_free-clause-passed : goal.returns-then-not-is_free-clause-passed
returns-then-not-is_free-clause-passed c =
    passed-over c.args.certificate.now c.args.k c.args.next c.requires.passed
    (sym c.is_free.ensures ∙ c.if-not-is_free.true)

pub path_fault-requires-clause-turn : goal.path_fault-requires-clause-turn
path_fault-requires-clause-turn c =
    passed-turn c.args.certificate.now c.args.k c.args.next c.requires.passed c.requires.rule
    (sym c.is_free.ensures ∙ c.if-not-is_free.false)

pub returns-in-Some-clause-wrong : goal.returns-in-Some-clause-wrong
returns-in-Some-clause-wrong c =
    first-wrong c.args.line (path_lines c.args.certificate.now) c.args.next c.in-Some.reason
    c.requires.passed.right (c.in_ok-reason.ensures.line ∙ ap Some c.in-Some.is)

pub returns-clause-passed : goal.returns-clause-passed
returns-clause-passed c =
    passed-counted c.args.certificate.now c.args.k c.args.next c.requires.passed
    (sym c.is_free.ensures ∙ c.if-not-is_free.false)
    (c.in_ok-reason.ensures.line ∙ ap Some c.in_default.is)
    (c.in_ok-reason.ensures.there c.in_default.is)
