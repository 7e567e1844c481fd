use Rattle.std.proofs.Common.{Some, ap, sym, ◌∙◌}
use Rattle.mb_certificate.proofs.FaultLists.{first-right}
use Rattle.mb_certificate.proofs.NoFaults.{rules-valid}
use Rattle.mb_certificate.specs.FirstFault.{rule_lines}
use Rattle.mb_checker.proofs.JudgedLines.{first-wrong, right-more, right-none}
use Rattle.mb_checker.proofs.LinesOfParts.{rule-line, rules-end}
use Rattle.mb_checker.proofs.rules.check_rules.Goals as goal

pub loop-k-init : goal.loop-k-init
loop-k-init c = right-none (rule_lines c.args.certificate.now)

pub returns-in-Some-clause-finds : goal.returns-in-Some-clause-finds
returns-in-Some-clause-finds c =
    let parts = c.args.certificate.now in
    first-wrong c.args.line (rule_lines parts) c.loop-k.k c.in-Some.reason c.loop-k.invariant
    (rule-line parts c.loop-k.k c.rules-rule-items.result.now c.rule-item.result
    c.rules-rule-items.ensures.rules c.loop-k-test.true c.rule-item.is
    ∙ ap Some (sym c.rule_fault.ensures ∙ c.in-Some.is))

pub loop-k-preserved : goal.loop-k-preserved
loop-k-preserved c =
    let parts = c.args.certificate.now in
    right-more (rule_lines parts) c.loop-k.k c.loop-k.invariant
    (rule-line parts c.loop-k.k c.rules-rule-items.result.now c.rule-item.result
    c.rules-rule-items.ensures.rules c.loop-k-test.true c.rule-item.is
    ∙ ap Some (sym c.rule_fault.ensures ∙ c.in_default.is))

pub returns-clause-finds : goal.returns-clause-finds
returns-clause-finds c =
    rules-end c.args.certificate.now c.loop-k.k c.args.line c.rules-rule-items.result.now
    c.rules-rule-items.ensures.rules c.loop-k-test.false c.loop-k.invariant

pub returns-clause-valid : goal.returns-clause-valid
returns-clause-valid c =
    let parts = c.args.certificate.now in
    rules-valid parts c.rules-rule-items.ensures.sound
    (first-right c.args.line (rule_lines parts)
    (rules-end parts c.loop-k.k c.args.line c.rules-rule-items.result.now
    c.rules-rule-items.ensures.rules c.loop-k-test.false c.loop-k.invariant))
