use Rattle.std.proofs.Common.{map, take, ◌++◌, ◌≡◌}
use Rattle.mb_kinds.specs.Generators.{indicator}
use Rattle.mb_kinds.proofs.Levels.{same}
use Rattle.mb_kinds.proofs.margins.push_row.Given as goal

abbrev pub invariant-loop-cell : goal.invariant-loop-cell
invariant-loop-cell l =
    l.entries.items
    ≡ l.fn.entries.items
    ++ map (λ cell. indicator (same l.dataset.levels l.factors l.number cell))
    (take l.cell-index l.cells)
