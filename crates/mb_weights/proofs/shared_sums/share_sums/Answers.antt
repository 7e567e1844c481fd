use Rattle.std.proofs.Common.{arith, length, take, ◌≡◌}
use Rattle.mb_rings.specs.Share.{share_of}
use Rattle.mb_weights.proofs.SharedTables.{all-share}
use Rattle.mb_weights.proofs.SummedParts.{both-pass, piece-added, piece-passes, piece-ring, sums-none, sums-part}
use Rattle.mb_weights.proofs.SummedTables.{each_ring}
use Rattle.mb_weights.proofs.shared_sums.share_sums.Goals as goal
use Rattle.mb_weights.specs.loops.Parts.{shares_in}

pub loop-ring-init : goal.loop-ring-init
loop-ring-init c = rw c.new-sums.ensures (sums-none c.args.measure.now c.args.most)

pub sums_of-requires-clause-tables : goal.sums_of-requires-clause-tables
sums_of-requires-clause-tables c =
    rw (c.share_of.ensures.share, c.as_slice.ensures.value)
    (all-share (λ table. length table ≡ length c.args.matrix.now.columns) c.ring-item.result.items
    c.args.share c.args.count
    (each_ring (λ table. length table ≡ length c.args.matrix.now.columns) c.args.rings.now
    c.loop-ring.ring-index c.ring-item.result (omega arith) c.ring-item.is c.requires.tables))

pub plus-requires-clause-part : goal.plus-requires-clause-part
plus-requires-clause-part c =
    sums-part c.args.measure.now c.args.most
    (shares_in (take c.loop-ring.ring-index c.args.rings.now) c.args.share c.args.count)
    c.loop-ring.sums c.loop-ring.invariant

pub plus-requires-clause-other_part : goal.plus-requires-clause-other_part
plus-requires-clause-other_part c =
    sums-part c.args.measure.now c.args.most c.share_of.result.1.now c.in_ok-more.more
    c.in_ok-more.ensures

pub returns-in_err-more : goal.returns-in_err-more
returns-in_err-more c =
    rw c.from_residual.ensures (piece-passes c.args.measure.now c.args.most _ _ _ _
    (piece-ring c.args.measure.now c.args.most
    (λ ring. share_of ring.items c.args.share c.args.count) c.args.rings.now
    c.loop-ring.ring-index c.ring-item.result (omega arith) c.ring-item.is)
    (rw (c.share_of.ensures.share, c.as_slice.ensures.value) at c.in_err-more.ensures))

pub returns-in_err-sums : goal.returns-in_err-sums
returns-in_err-sums c =
    rw c.from_residual-in_err-sums.ensures (both-pass c.args.measure.now c.args.most _ _ _ _
    c.loop-ring.sums c.in_ok-more.more
    (piece-ring c.args.measure.now c.args.most
    (λ ring. share_of ring.items c.args.share c.args.count) c.args.rings.now
    c.loop-ring.ring-index c.ring-item.result (omega arith) c.ring-item.is) c.loop-ring.invariant
    (rw (c.share_of.ensures.share, c.as_slice.ensures.value) at c.in_ok-more.ensures)
    c.in_err-sums.ensures)

pub loop-ring-preserved : goal.loop-ring-preserved
loop-ring-preserved c =
    piece-added c.args.measure.now c.args.most _ _ _ _ c.loop-ring.sums c.in_ok-more.more
    c.in_ok-sums.sums
    (piece-ring c.args.measure.now c.args.most
    (λ ring. share_of ring.items c.args.share c.args.count) c.args.rings.now
    c.loop-ring.ring-index c.ring-item.result (omega arith) c.ring-item.is) c.loop-ring.invariant
    (rw (c.share_of.ensures.share, c.as_slice.ensures.value) at c.in_ok-more.ensures)
    c.in_ok-sums.ensures
