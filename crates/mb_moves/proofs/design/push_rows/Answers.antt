use Rattle.mb_moves.proofs.RowLines.{row_written}
use Rattle.mb_moves.proofs.design.push_rows.Goals as goal

pub loop-row-preserved : goal.loop-row-preserved
loop-row-preserved c =
    row_written c.args.matrix.now c.args.out.now.items c.loop-row.out.items
    c.push_line.new.out.items c.row.result.now c.loop-row.row c.in_ok-push_line.ensures
    c.loop-row.invariant c.row.ensures.entries
