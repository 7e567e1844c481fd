use Rattle.std.proofs.Common.{map, ◌++◌, ◌≡◌}
use Rattle.std.specs.List.{range_with_len}
use Rattle.mb_data.specs.CrossTable.{combination}
use Rattle.mb_kinds.specs.Generators.{level_row, sizes_of}
use Rattle.mb_kinds.specs.loops.Placed.{end_to_end}
use Rattle.mb_kinds.proofs.margins.push_rows.Given as goal

abbrev pub invariant-loop-number : goal.invariant-loop-number
invariant-loop-number l =
    l.entries.items
    ≡ l.fn.entries.items
    ++ end_to_end (map (λ k. level_row l.dataset l.factors
    (combination (sizes_of l.dataset.levels l.factors) k))
    (range_with_len 0 l.number))
