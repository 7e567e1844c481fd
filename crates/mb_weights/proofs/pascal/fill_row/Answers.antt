use Rattle.std.proofs.Common.{arith}
use Rattle.mb_weights.proofs.SmallWays.{next_entry, row-begun, small_fits, ways-written}
use Rattle.mb_weights.proofs.pascal.fill_row.Goals as goal

pub loop-count-init : goal.loop-count-init
loop-count-init c = row-begun c.args.table.now c.args.row c.requires.row c.requires.rows

pub overflow_add-sum : goal.overflow_add-sum
overflow_add-sum c =
    let e =
    next_entry c.loop-count.table c.args.row c.loop-count.count c.requires.above (omega arith)
    (omega arith) c.loop-count.invariant in
    let f = small_fits c.args.row c.loop-count.count c.requires.row (omega arith) in
    omega (arith, e, f)

pub loop-count-preserved : goal.loop-count-preserved
loop-count-preserved c =
    ways-written c.loop-count.table c.args.row c.loop-count.count _ c.requires.row (omega arith)
    c.loop-count.invariant
    (next_entry c.loop-count.table c.args.row c.loop-count.count c.requires.above (omega arith)
    (omega arith) c.loop-count.invariant)
