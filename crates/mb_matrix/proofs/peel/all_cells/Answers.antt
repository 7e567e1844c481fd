use Rattle.std.proofs.Common.{ap, sym, ◌++◌, ◌∙◌, ◌∷◌, []}
use Rattle.mb_matrix.proofs.CellLists.{range-next}
use Rattle.mb_matrix.proofs.peel.all_cells.Goals as goal

pub loop-cell-preserved : goal.loop-cell-preserved
loop-cell-preserved c =
    let e = range-next c.loop-cell.cell in
    c.in_ok-push.ensures.items
    ∙ ap (λ l. l ++ (c.loop-cell.cell ∷ [])) c.loop-cell.invariant ∙ sym e
