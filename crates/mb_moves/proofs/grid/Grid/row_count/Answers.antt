use Rattle.std.proofs.Common.{ap, length, sym, ◌∙◌}
use Rattle.mb_tables.specs.Rows.{Rows}
use Rattle.mb_tables.proofs.RowsOfEntries.{length-rows_of}
use Rattle.mb_moves.proofs.grid.Grid.row_count.Goals as goal

pub returns-clause-rows : goal.returns-clause-rows
returns-clause-rows c =
    sym (length-rows_of c.self.inside.cols c.self.inside.rows c.self.inside.entries.items)
    ∙ ap (λ (array : Rows). length array.rows) c.self.view_is
