use Rattle.std.proofs.Common.{arith}
use Rattle.mb_weights.proofs.GroupTotals.{total_from-all, total_from-suc}
use Rattle.mb_weights.proofs.totals.summed_total.Goals as goal

pub loop-cell-preserved : goal.loop-cell-preserved
loop-cell-preserved c =
    let e =
    total_from-suc c.args.group c.args.groups.now c.args.counts.now c.loop-cell.cell
    (omega arith) c.requires.cells in
    let f = c.count_in-sum.ensures.counted in
    let g = c.loop-cell.invariant.so_far in
    record { so_far = omega arith; small = omega arith }

pub returns : goal.returns
returns c =
    let e =
    total_from-all c.args.group c.args.groups.now c.args.counts.now c.loop-cell.cell
    (omega arith) in
    omega arith
