use Rattle.std.proofs.Common.{ap, arith, map, pos, refl, ◌∙◌}
use mir.Syntax.{w64}
use mir.Val.{of_z}
use Rattle.mb_matrix.proofs.RowsAndColumns.{is_move-at, is_move-by_rows}
use Rattle.mb_matrix.specs.Matrix.{row_of}
use Rattle.mb_tables.specs.Margin.{move_margin}
use Rattle.mb_matrix.proofs.matrix.Matrix.is_move.Goals as goal

pub returns-then-sum_of_entries-ne0 : goal.returns-then-sum_of_entries-ne0
returns-then-sum_of_entries-ne0 c = (
  (λ no. cc),
  (λ move. absurd (c.if-sum_of_entries-ne0.true
      (ap (of_z w64)
      (c.sum_of_entries.ensures
      ∙ ap (λ row. move_margin (map pos row) c.copy_to_slice.new.entries) c.row.ensures.entries
      ∙ ap (move_margin (map pos (row_of c.args.self.now c.loop-row.row)))
      c.copy_to_slice.ensures
      ∙ is_move-at c.args.self.now c.args.z.now c.loop-row.row move (omega arith))))),
)

pub returns : goal.returns
returns c = (
  (λ _. is_move-by_rows c.args.self.now c.args.z.now
      (λ i l. c.loop-row.invariant i (omega arith))),
  (λ _. refl),
)
