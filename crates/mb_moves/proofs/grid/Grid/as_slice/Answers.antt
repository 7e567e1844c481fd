use Rattle.std.proofs.Common.{ap, length, sym, ◌*◌, ◌∙◌}
use Rattle.mb_tables.specs.Rows.{Rows, array_of}
use Rattle.mb_tables.proofs.RowsOfEntries.{length-rows_of}
use Rattle.mb_moves.proofs.grid.Grid.as_slice.Goals as goal

pub returns-clause-array : goal.returns-clause-array
returns-clause-array c =
    let grid = c.self.inside in
    let size = length-rows_of grid.cols grid.rows grid.entries.items in
    sym c.self.view_is
    ∙ ap (λ n. array_of grid.cols n grid.entries.items) (sym size)
    ∙ ap (λ (array : Rows). array_of array.width (length array.rows) grid.entries.items)
    c.self.view_is
    ∙ ap (array_of c.args.self.now.width (length c.args.self.now.rows))
    (sym c.as_slice.ensures.value)

pub returns-clause-full : goal.returns-clause-full
returns-clause-full c =
    let grid = c.self.inside in
    ap length c.as_slice.ensures.value ∙ c.self.invariant.full
    ∙ ap (λ n. n * grid.cols) (sym (length-rows_of grid.cols grid.rows grid.entries.items))
    ∙ ap (λ (array : Rows). length array.rows * array.width) c.self.view_is
