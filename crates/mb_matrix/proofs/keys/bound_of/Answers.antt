use Rattle.std.proofs.Common.{[], ap, arith, drop, length, min, sym, ◌+◌, ◌<◌, ◌∙◌, ◌≡◌, ◌≤◌}
use Rattle.std.proofs.lemmas.List.Elements.{All-from_recursion}
use Rattle.std.specs.List.{fold}
use Rattle.mb_matrix.specs.Key.{quotients}
use Rattle.mb_matrix.specs.Fiber.{IsColumn}
use Rattle.mb_matrix.specs.Matrix.{column_at}
use Rattle.mb_matrix.proofs.Digits.{bound-counted, bound-end, bound-other}
use Rattle.mb_matrix.proofs.RowsAndColumns.{row_entry}
use Rattle.mb_matrix.proofs.keys.bound_of.Goals as goal
use Rattle.mb_matrix.proofs.keys.bound_of.Goals.{else-entry-gt0, then-entry-gt0}
use Rattle.mb_tables.specs.Vectors.{at}

pub loop-row-preserved : goal.loop-row-preserved
loop-row-preserved c =
    let matrix = c.args.matrix.now in
    let margins = c.args.margins.now in
    let column = column_at matrix c.args.cell in
    let row = c.loop-row.row in
    let sound = c.rows-row-end.ensures.sound in
    let is = All-from_recursion (IsColumn matrix.rows) matrix.columns sound.each c.args.cell []
    c.requires.cell in
    let high = is.high in
    let h : row < length column = omega arith in
    let l : row < length margins = omega arith in
    let read : at column row ≡ c.from-entry.result =
    sym (row_entry matrix row c.args.cell c.requires.cell) ∙ sym c.entry.ensures.entry
    ∙ sym c.from-entry.ensures in
    elim c.if-entry-gt0.branch [
      | then-entry-gt0 w ↦
          bound-counted column margins row c.from-entry.result c.loop-row.bound
          c.if-entry-gt0.bound h l
          read w.if-entry-gt0.true (w.bound-is ∙ w.min-bound.ensures) ∙ c.loop-row.invariant
      | else-entry-gt0 w ↦
          let zero : c.from-entry.result ≡ 0 = let f = w.if-entry-gt0.false in omega arith in
          ap (λ b. fold min b (quotients (drop (row + 1) column) (drop (row + 1) margins)))
          w.bound-is
          ∙ bound-other column margins row c.loop-row.bound h l (read ∙ zero) ∙ c.loop-row.invariant
    ]

pub returns : goal.returns
returns c =
    let matrix = c.args.matrix.now in
    let column = column_at matrix c.args.cell in
    let sound = c.rows-row-end.ensures.sound in
    let is = All-from_recursion (IsColumn matrix.rows) matrix.columns sound.each c.args.cell []
    c.requires.cell in
    let high = is.high in
    let below : length column ≤ c.loop-row.row = omega arith in
    let wide : length column ≤ length c.args.margins.now = omega arith in
    bound-end column c.args.margins.now c.loop-row.row c.loop-row.bound below is.not_zero wide
    (λ i l. let f = c.type_inv.margins i in omega arith) c.loop-row.invariant
