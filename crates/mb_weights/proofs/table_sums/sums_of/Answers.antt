use Rattle.std.proofs.Common.{[], arith, take, ◌∷◌}
use Rattle.mb_weights.proofs.SummedParts.{both-pass, piece-added, piece-passes, piece-table, sums-none, sums-part}
use Rattle.mb_weights.proofs.table_sums.sums_of.Goals as goal

pub loop-table-init : goal.loop-table-init
loop-table-init c = rw c.new-sums.ensures (sums-none c.args.measure.now c.args.most)

pub plus-requires-clause-part : goal.plus-requires-clause-part
plus-requires-clause-part c =
    sums-part c.args.measure.now c.args.most (take c.loop-table.table-index c.args.tables.now)
    c.loop-table.sums c.loop-table.invariant

pub plus-requires-clause-other_part : goal.plus-requires-clause-other_part
plus-requires-clause-other_part c =
    sums-part c.args.measure.now c.args.most (c.table-item.result ∷ []) c.in_ok-more.more
    c.in_ok-more.ensures

pub returns-in_err-more : goal.returns-in_err-more
returns-in_err-more c =
    rw c.from_residual.ensures (piece-passes c.args.measure.now c.args.most _ _ _ _
    (piece-table c.args.measure.now c.args.most c.args.tables.now c.loop-table.table-index
    c.table-item.result (omega arith) c.table-item.is) c.in_err-more.ensures)

pub returns-in_err-sums : goal.returns-in_err-sums
returns-in_err-sums c =
    rw c.from_residual-in_err-sums.ensures (both-pass c.args.measure.now c.args.most _ _ _ _
    c.loop-table.sums c.in_ok-more.more
    (piece-table c.args.measure.now c.args.most c.args.tables.now c.loop-table.table-index
    c.table-item.result (omega arith) c.table-item.is) c.loop-table.invariant
    c.in_ok-more.ensures c.in_err-sums.ensures)

pub loop-table-preserved : goal.loop-table-preserved
loop-table-preserved c =
    piece-added c.args.measure.now c.args.most _ _ _ _ c.loop-table.sums c.in_ok-more.more
    c.in_ok-sums.sums
    (piece-table c.args.measure.now c.args.most c.args.tables.now c.loop-table.table-index
    c.table-item.result (omega arith) c.table-item.is) c.loop-table.invariant
    c.in_ok-more.ensures c.in_ok-sums.ensures
