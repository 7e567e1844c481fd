use Rattle.std.proofs.Common.{None, arith, length, ◌≡◌}
use Rattle.mb_weights.proofs.SharedTables.{piece-share, shares-all, shares-first}
use Rattle.mb_weights.proofs.SummedParts.{both-pass, piece-added, piece-passes, sums-none, sums-part}
use Rattle.mb_weights.proofs.shared_sums.sums_by.Goals as goal
use Rattle.mb_weights.specs.loops.Parts.{shares_before, shares_in}

pub loop-part-init : goal.loop-part-init
loop-part-init g c =
    let count = c.lend.ensures.count in
    rw (shares-first c.args.rings.now (length c.lend.new.parts) (omega arith), c.new-sums.ensures)
    (sums-none c.args.measure.now c.args.most)

pub plus-requires-clause-part : goal.plus-requires-clause-part
plus-requires-clause-part g c =
    sums-part c.args.measure.now c.args.most
    (shares_before c.args.rings.now c.loop-part.part-index (length c.lend.new.parts))
    c.loop-part.sums c.loop-part.invariant

pub plus-requires-clause-other_part : goal.plus-requires-clause-other_part
plus-requires-clause-other_part g c =
    let count = c.lend.ensures.count in
    sums-part c.args.measure.now c.args.most
    (shares_in c.args.rings.now c.loop-part.part-index (length c.args.parts.now))
    c.in_ok-more.more
    (rw c.in_ok-more.was at (c.lend.ensures.parts c.loop-part.part-index None (omega arith)))

pub returns-in_err-more : goal.returns-in_err-more
returns-in_err-more g c =
    let count = c.lend.ensures.count in
    rw c.from_residual.ensures (piece-passes c.args.measure.now c.args.most _ _ _ _
    (piece-share c.args.measure.now c.args.most c.args.rings.now c.loop-part.part-index
    (length c.args.parts.now) (omega arith))
    (rw c.in_err-more.was at (c.lend.ensures.parts c.loop-part.part-index None (omega arith))))

pub returns-in_err-sums : goal.returns-in_err-sums
returns-in_err-sums g c =
    let count = c.lend.ensures.count in
    rw c.from_residual-in_err-sums.ensures (both-pass c.args.measure.now c.args.most _ _ _ _
    c.loop-part.sums c.in_ok-more.more
    (piece-share c.args.measure.now c.args.most c.args.rings.now c.loop-part.part-index
    (length c.args.parts.now) (omega arith)) (rw count at c.loop-part.invariant)
    (rw c.in_ok-more.was at (c.lend.ensures.parts c.loop-part.part-index None (omega arith)))
    c.in_err-sums.ensures)

pub loop-part-preserved : goal.loop-part-preserved
loop-part-preserved g c =
    let count = c.lend.ensures.count in
    rw count (piece-added c.args.measure.now c.args.most _ _ _ _ c.loop-part.sums
    c.in_ok-more.more c.in_ok-sums.sums
    (piece-share c.args.measure.now c.args.most c.args.rings.now c.loop-part.part-index
    (length c.args.parts.now) (omega arith)) (rw count at c.loop-part.invariant)
    (rw c.in_ok-more.was at (c.lend.ensures.parts c.loop-part.part-index None (omega arith)))
    c.in_ok-sums.ensures)

pub returns : goal.returns
returns g c =
    let count = c.lend.ensures.count in
    let last : c.loop-part.part-index ≡ length c.lend.new.parts = omega arith in
    rw (last, shares-all c.args.rings.now (length c.lend.new.parts) (omega arith))
    at c.loop-part.invariant
