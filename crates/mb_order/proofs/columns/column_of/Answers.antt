use Rattle.std.proofs.Common.{[], arith}
use Rattle.std.proofs.lemmas.List.Elements.{All-from_recursion}
use Rattle.mb_order.proofs.columns.column_of.Goals as goal
use Rattle.mb_matrix.specs.Fiber.{IsColumn}
use Rattle.mb_matrix.specs.Matrix.{column_at}
use Rattle.mb_tables.proofs.VectorLaws.{same_places}

pub returns-clause-column : goal.returns-clause-column
returns-clause-column c =
    let matrix = c.args.matrix.now in
    let s = c.rows-rows.ensures.sound in
    let column = All-from_recursion (IsColumn matrix.rows) matrix.columns s.each c.args.cell []
    c.requires in
    let rows = c.rows-rows.ensures.rows in
    let end = c.loop-row-test.false in
    let done = c.loop-row.auto.row-end in
    let long = c.loop-row.invariant.long in
    let high = column.high in
    same_places c.loop-row.column.items (column_at matrix c.args.cell) (omega arith)
    (λ i l. c.loop-row.invariant.each i (omega arith))
