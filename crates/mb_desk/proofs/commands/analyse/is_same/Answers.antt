-- The rows are compared one by one.
use Rattle.std.proofs.Common.{ap, arith, length, sym, ◌∙◌}
use Rattle.mb_desk.proofs.SameMatrices.{row-differs, told-apart, told-same}
use Rattle.mb_desk.proofs.commands.analyse.is_same.Goals as goal
use Rattle.mb_matrix.specs.Matrix.{Design}

pub returns-then-rows : goal.returns-then-rows
returns-then-rows c =
    told-apart c.args.a.now c.args.b.now (λ e. c.if-rows.true
    (c.rows.ensures.rows ∙ ap (λ (m : Design). m.rows) e ∙ sym c.rows-2.ensures.rows))

pub returns-then-cols : goal.returns-then-cols
returns-then-cols c =
    told-apart c.args.a.now c.args.b.now (λ e. c.if-cols.true
    (c.cols.ensures.cells ∙ ap (λ (m : Design). length m.columns) e ∙ sym c.cols-2.ensures.cells))

pub returns-then-ne : goal.returns-then-ne
returns-then-ne c =
    row-differs c.args.a.now c.args.b.now c.loop-row.row c.row.result.now
    c.row-in-loop-row.result.now c.row.ensures.entries c.row-in-loop-row.ensures.entries
    c.if-ne.ensures

pub returns : goal.returns
returns c =
    told-same c.args.a.now c.args.b.now c.rows.ensures.sound c.rows-2.ensures.sound
    (sym c.rows.ensures.rows ∙ c.if-rows.false ∙ c.rows-2.ensures.rows)
    (sym c.cols.ensures.cells ∙ c.if-cols.false ∙ c.cols-2.ensures.cells)
    (λ i l. c.loop-row.invariant i (let past = c.loop-row-test.false in
    let rows = c.rows-row-end.ensures.rows in omega arith))
