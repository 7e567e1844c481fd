use Rattle.std.proofs.Common.{arith, sym}
use Rattle.mb_matrix.proofs.NumberedRows.{no_row_has}
use Rattle.mb_matrix.proofs.scale_tests.has_cell.Goals as goal

pub returns-then-n-rows : goal.returns-then-n-rows
returns-then-n-rows c =
    sym (no_row_has c.args.matrix.now c.args.cell c.args.n c.rows.ensures.sound c.requires
    (omega arith))
