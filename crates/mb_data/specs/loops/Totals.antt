-- Entries with the numbers that are kept beside them.
use Rattle.std.specs.Prelude.{List, length, sum, ℕ, ◌≡◌, ◌≤◌}
use Rattle.mb_data.specs.CrossTable.{counts}
use Rattle.mb_data.specs.declared.entry.Entry.{Entry}

-- the numbers beside entries
pub record IsFilled (entries : List Entry) (cells total : ℕ) : Type 0 where
  pub cells_are : cells ≡ length (counts entries)
  pub few : cells ≤ 64
  pub total_is : total ≡ sum (counts entries)
  pub small : total ≤ 1000000
