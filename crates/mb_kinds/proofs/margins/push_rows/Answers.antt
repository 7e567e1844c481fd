use Rattle.std.proofs.Common.{All, List, ap, map, rules, subst, sym, ℕ, ◌++◌, ◌<◌, ◌∙◌, ◌≡◌}
use Rattle.mb_data.specs.CrossTable.{combination, combinations, sizes}
use Rattle.mb_kinds.specs.Generators.{indicator, level_row, sizes_of}
use Rattle.mb_kinds.proofs.Levels.{same}
use Rattle.mb_kinds.proofs.RowSteps.{cells_within, row_more}
use Rattle.mb_kinds.proofs.margins.push_rows.Goals as goal

pub push_row-requires-clause-cells : goal.push_row-requires-clause-cells
push_row-requires-clause-cells c =
    subst (λ (list : List ℕ). All (λ cell. cell < combinations
    (sizes c.args.dataset.now.levels)) list)
    (sym c.requires.cells) (cells_within c.args.dataset.now c.factors-sound.ensures.sound)

pub loop-number-preserved : goal.loop-number-preserved
loop-number-preserved c =
    let row = map (λ cell. indicator (same c.args.dataset.now.levels c.args.factors.now
    c.loop-number.number cell))
    c.args.cells.now in
    let pushed : c.in_ok-entries.entries.items ≡ c.loop-number.entries.items
    ++ row = search rules in
    pushed
    ∙ row_more (λ k. level_row c.args.dataset.now c.args.factors.now
    (combination (sizes_of c.args.dataset.now.levels c.args.factors.now) k))
    c.args.entries.items c.loop-number.number c.loop-number.entries.items row
    c.loop-number.invariant
    (ap (map (λ cell. indicator (same c.args.dataset.now.levels c.args.factors.now
    c.loop-number.number cell)))
    c.requires.cells)
