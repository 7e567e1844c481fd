use Rattle.std.proofs.Common.{Some, ap, sym, ◌∙◌}
use Rattle.mb_certificate.specs.FirstFault.{start_lines}
use Rattle.mb_checker.proofs.JudgedLines.{first-wrong, right-more, right-none}
use Rattle.mb_checker.proofs.LinesOfParts.{start-line, starts-end}
use Rattle.mb_checker.proofs.starts.check_starts.Goals as goal

pub loop-k-init : goal.loop-k-init
loop-k-init c = right-none (start_lines c.args.certificate.now)

pub returns-in-Some : goal.returns-in-Some
returns-in-Some c =
    let parts = c.args.certificate.now in
    first-wrong c.args.line (start_lines parts) c.loop-k.k c.in-Some.reason c.loop-k.invariant
    (start-line parts c.loop-k.k c.starts-start-items.result.now c.start-item.result
    c.starts-start-items.ensures.starts c.loop-k-test.true c.start-item.is
    ∙ ap Some (sym c.in_ok-reason.ensures ∙ c.in-Some.is))

pub loop-k-preserved : goal.loop-k-preserved
loop-k-preserved c =
    let parts = c.args.certificate.now in
    right-more (start_lines parts) c.loop-k.k c.loop-k.invariant
    (start-line parts c.loop-k.k c.starts-start-items.result.now c.start-item.result
    c.starts-start-items.ensures.starts c.loop-k-test.true c.start-item.is
    ∙ ap Some (sym c.in_ok-reason.ensures ∙ c.in_default.is))

pub returns : goal.returns
returns c =
    starts-end c.args.certificate.now c.loop-k.k c.args.line c.starts-start-items.result.now
    c.starts-start-items.ensures.starts c.loop-k-test.false c.loop-k.invariant
