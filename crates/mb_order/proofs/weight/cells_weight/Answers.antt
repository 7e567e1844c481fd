use Rattle.std.proofs.Common.{add-one, arith, ◌*◌, ◌≡◌}
use Rattle.mb_matrix.proofs.MarginSums.{margin-drop, margin-drop_all}
use Rattle.mb_order.proofs.weight.cells_weight.Goals as goal
use Rattle.mb_tables.specs.Vectors.{at}

pub loop-cell-preserved : goal.loop-cell-preserved
loop-cell-preserved c =
    let row = c.args.row.now in
    let k = c.loop-cell.cell in
    let long = c.requires.long in
    let e = margin-drop row c.args.cells.now k (omega arith) (omega arith) in
    let f : c.weighted-sum.result ≡ at row k * at c.args.cells.now k =
    c.weighted-sum.ensures.product in
    record { so_far = rw add-one (omega arith); small = omega arith }

pub returns-clause-weight : goal.returns-clause-weight
returns-clause-weight c =
    let long = c.requires.long in
    let e = margin-drop_all c.args.row.now c.args.cells.now c.loop-cell.cell (omega arith) in
    omega arith
