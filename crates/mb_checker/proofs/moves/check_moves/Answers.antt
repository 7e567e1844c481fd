use Rattle.std.proofs.Common.{Some, ap, sym, ◌∙◌}
use Rattle.mb_certificate.proofs.FaultLists.{first-right}
use Rattle.mb_certificate.proofs.NoFaults.{moves-valid}
use Rattle.mb_certificate.specs.FirstFault.{move_lines}
use Rattle.mb_checker.proofs.JudgedLines.{first-wrong, right-more, right-none}
use Rattle.mb_checker.proofs.LinesOfParts.{move-line, moves-end}
use Rattle.mb_checker.proofs.moves.check_moves.Goals as goal

pub loop-k-init : goal.loop-k-init
loop-k-init c = right-none (move_lines c.args.certificate.now)

pub returns-in-Some-clause-finds : goal.returns-in-Some-clause-finds
returns-in-Some-clause-finds c =
    let parts = c.args.certificate.now in
    first-wrong c.args.line (move_lines parts) c.loop-k.k c.in-Some.reason c.loop-k.invariant
    (move-line parts c.loop-k.k c.as_slice-z-items.result.now c.z-item.result
    (c.as_slice-z-items.ensures.moves ∙ c.moves.ensures.moves) c.loop-k-test.true c.z-item.is
    ∙ ap Some (sym c.move_fault.ensures ∙ c.in-Some.is))

pub loop-k-preserved : goal.loop-k-preserved
loop-k-preserved c =
    let parts = c.args.certificate.now in
    right-more (move_lines parts) c.loop-k.k c.loop-k.invariant
    (move-line parts c.loop-k.k c.as_slice-z-items.result.now c.z-item.result
    (c.as_slice-z-items.ensures.moves ∙ c.moves.ensures.moves) c.loop-k-test.true c.z-item.is
    ∙ ap Some (sym c.move_fault.ensures ∙ c.in_default.is))

pub returns-clause-finds : goal.returns-clause-finds
returns-clause-finds c =
    moves-end c.args.certificate.now c.loop-k.k c.args.line c.as_slice-z-items.result.now
    (c.as_slice-z-items.ensures.moves ∙ c.moves.ensures.moves) c.loop-k-test.false
    c.loop-k.invariant

pub returns-clause-valid : goal.returns-clause-valid
returns-clause-valid c =
    let parts = c.args.certificate.now in
    moves-valid parts c.moves.ensures.sound
    (first-right c.args.line (move_lines parts)
    (moves-end parts c.loop-k.k c.args.line c.as_slice-z-items.result.now
    (c.as_slice-z-items.ensures.moves ∙ c.moves.ensures.moves) c.loop-k-test.false
    c.loop-k.invariant))
