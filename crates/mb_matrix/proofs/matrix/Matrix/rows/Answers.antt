use Rattle.mb_matrix.proofs.KeptEntries.{rows_read}
use Rattle.mb_matrix.proofs.matrix.Matrix.rows.Goals as goal

pub returns-clause-rows : goal.returns-clause-rows
returns-clause-rows c =
    rows_read c.self.inside.rows c.self.inside.cols c.self.inside.entries.items c.args.self.now
    c.self.view_is
