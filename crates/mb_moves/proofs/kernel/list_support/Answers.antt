use Rattle.std.proofs.Common.{[], ap, rules, set, ℤ, append_assoc, arith, drop, length, pos, get_or, sym, take, ◌+◌, ◌++◌, ◌<◌, ◌≡◌, ◌≢◌, ◌∙◌, ◌∷◌, List, ℕ}
use Rattle.std.proofs.lemmas.List.{append-nil, take_more_set}
use Rattle.mb_moves.proofs.SupportSteps.{support-all, support-cell, support-zero, zero_bits}
use mir.Syntax.{w32}
use mir.Val.{SFits, of_z}
use Rattle.mb_moves.specs.loops.Support.{support}
use Rattle.mb_moves.proofs.kernel.list_support.Goals as goal
use Rattle.mb_moves.proofs.kernel.list_support.Goals.{else-z-ne0, then-z-ne0}

-- a cell that is listed
listed_more : (cells : List ℕ) (count cell : ℕ) (move : List ℤ) → count < length cells →
    cell < length move →
    get_or move cell (pos 0) ≢ pos 0 → (take count cells ++ support cell (drop cell move))
    ≡ support 0 move →
    (take (count + 1) (set cells count cell) ++ support (cell + 1) (drop (cell + 1) move))
    ≡ support 0 move
listed_more cells count cell move room l h so_far =
    ap (λ front. front ++ support (cell + 1) (drop (cell + 1) move))
    (take_more_set cells count cell room)
    ∙ append_assoc (take count cells) (cell ∷ []) (support (cell + 1) (drop (cell + 1) move))
    ∙ ap (λ left. take count cells ++ left) (sym (support-cell cell move l h))
    ∙ so_far

pub loop-cell-preserved : goal.loop-cell-preserved
loop-cell-preserved c =
    let move = c.args.move_entries.now in
    let cell = c.loop-cell.cell in
    let fits : SFits w32 (get_or move cell (pos 0)) = search rules in
    elim c.if-z-ne0.branch [
      | then-z-ne0 w ↦ record {
        few = omega arith;
        listed = rw (w.count-is, w.cells-is)
            (listed_more c.loop-cell.cells c.loop-cell.count cell move (omega arith)
            c.loop-cell-test.true
            (λ e. w.if-z-ne0.true (ap (of_z w32) e)) c.loop-cell.invariant.listed);
      }
      | else-z-ne0 w ↦ record {
        few = omega arith;
        listed = rw (w.count-is, w.cells-is)
            (ap (λ left. take c.loop-cell.count c.loop-cell.cells ++ left)
            (sym (support-zero cell move c.loop-cell-test.true
            (zero_bits (get_or move cell (pos 0)) fits w.if-z-ne0.false)))
            ∙ c.loop-cell.invariant.listed);
      }
    ]

pub returns-clause-cells : goal.returns-clause-cells
returns-clause-cells c =
    let none = support-all c.loop-cell.cell c.args.move_entries.now c.loop-cell-test.false in
    sym (append-nil (take c.loop-cell.count c.loop-cell.cells))
    ∙ ap (λ left. take c.loop-cell.count c.loop-cell.cells ++ left) (sym none)
    ∙ c.loop-cell.invariant.listed
