use Rattle.std.proofs.Common.{take, ◌≡◌}
use Rattle.mb_data.specs.CrossTable.{counts}
use Rattle.mb_data.proofs.cells.cell_counts.Given as goal

abbrev pub invariant-loop-entry : goal.invariant-loop-entry
invariant-loop-entry l = l.list.items ≡ counts (take l.entry-index l.entries)
