-- The entries of combinations of levels, one after the other.
use Rattle.std.specs.Prelude.{Err, List, Ok, Result, length, ℕ, ◌<◌, ◌≡◌}
use Rattle.mb_data.specs.CrossTable.{counts}
use Rattle.mb_data.specs.DatasetText.{Row, entries_of}
use Rattle.mb_data.specs.declared.fault.DataFault.{DataFault}
use Rattle.mb_data.specs.declared.fault.DataFault.TheVariants.{OutOfMemory, TooManyCells}
use Rattle.mb_data.specs.declared.filled.Filled.{Filled}

-- the entries of all combinations, or more than 64 cells among them
abbrev pub HasFilled : List Row → List (List (List ℕ)) → Result Filled DataFault → Type 0
HasFilled rows levels (Ok filled) = filled.entries.items ≡ entries_of rows levels
HasFilled rows levels (Err TooManyCells) = 64 < length (counts (entries_of rows levels))
HasFilled rows levels (Err OutOfMemory) = Unit {0}
HasFilled rows levels (Err fault) = ⊥
