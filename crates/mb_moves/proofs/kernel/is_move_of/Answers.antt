use Rattle.std.proofs.Common.{[], arith, below_more, sym, ◌∙◌}
use Rattle.mb_moves.proofs.SupportSteps.{margin_of_row, support_cells}
use Rattle.mb_moves.proofs.kernel.is_move_of.Goals as goal

pub is_kept-requires-clause-cells : goal.is_kept-requires-clause-cells
is_kept-requires-clause-cells c =
    support_cells _ c.row.result.now c.args.move_entries.now c.list_support-count.ensures.cells
    (omega arith)

pub returns-then-not-is_kept : goal.returns-then-not-is_kept
returns-then-not-is_kept c =
    let whole = margin_of_row _ c.args.grid.now.rows c.loop-i.i c.row.result.now []
    c.args.move_entries.now c.list_support-count.ensures.cells c.row.ensures.entries
    (omega arith) in
    λ all. c.if-not-is_kept.ensures (whole ∙ all c.loop-i.i [] (omega arith))

pub loop-i-preserved : goal.loop-i-preserved
loop-i-preserved c =
    let whole = margin_of_row _ c.args.grid.now.rows c.loop-i.i c.row.result.now []
    c.args.move_entries.now c.list_support-count.ensures.cells c.row.ensures.entries
    (omega arith) in
    below_more _ _ c.loop-i.invariant (sym whole ∙ c.if-not-is_kept.ensures)
