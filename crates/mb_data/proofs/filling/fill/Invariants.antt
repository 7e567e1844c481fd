use Rattle.std.proofs.Common.{List, length, map, ◌≡◌}
use Rattle.std.specs.List.{range_with_len}
use Rattle.mb_data.specs.CrossTable.{combination, named, sizes}
use Rattle.mb_data.specs.DatasetText.{Row, entry_in}
use Rattle.mb_data.specs.Rows.{entry_at}
use Rattle.mb_data.specs.loops.Gathers.{Gathers}
use Rattle.mb_data.proofs.filling.fill.Given as goal

abbrev pub invariant-loop-number : goal.invariant-loop-number
invariant-loop-number l =
    (list : List Row) → Gathers (length l.levels) list l.levels (entry_at l.rows) l.total
    → l.filled.entries.items
    ≡ map (λ k. entry_in list (named l.levels (combination (sizes l.levels) k)))
    (range_with_len 0 l.number)
