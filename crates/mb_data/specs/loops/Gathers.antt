-- What is kept of the rows read so far.
use Rattle.std.specs.List.{list_all}
use Rattle.std.specs.Prelude.{Err, List, Ok, Option, Result, Some, [], length, replicate, slice_get, true, ℕ, ◌≡◌}
use Rattle.std.specs.Str.{is_utf8}
use Rattle.mb_data.specs.DatasetText.{Row, entry_by_rows, levels_after, total_of}
use Rattle.mb_data.specs.Faults.{cause}
use Rattle.mb_data.specs.Rows.{entry_at}
use Rattle.mb_data.specs.declared.entry.Entry.{Entry}
use Rattle.mb_data.specs.declared.fault.DataFault.{DataFault}
use Rattle.mb_data.specs.declared.gathered.Gathered.{Gathered}
use Rattle.mb_data.specs.loops.Keys.{key_of}
use Rattle.mb_tables.specs.Answers.{IsRefused}

-- the levels of the rows, their entries by keys, and the sum of their counts
pub record Gathers (factors : ℕ) (rows : List Row) (levels : List (List (List ℕ)))
    (entry_of_key : List ℕ → Option Entry) (total : ℕ) : Type 0 where
  pub wide : length levels ≡ factors
  pub levels_are : levels ≡ levels_after (replicate factors []) rows
  pub texts : (k : ℕ) (row : Row) → slice_get rows k ≡ Some row → list_all is_utf8 row.levels ≡ true
  pub entries : (names : List (List ℕ)) → list_all is_utf8 names ≡ true →
      entry_of_key (key_of names) ≡ entry_by_rows rows names
  pub total_is : total ≡ total_of rows

-- the same of a struct that keeps them
abbrev pub HasGathered : ℕ → List Row → Gathered → Type 0
HasGathered factors rows gathered =
    Gathers factors rows gathered.levels.items (entry_at gathered.rows) gathered.total

-- a record was added: the rows have its row, and what is kept of them goes along; or it has a fault
abbrev pub HasAdded : ℕ → Result (Unit {0}) DataFault → Result (List Row) DataFault → Gathered →
    Type 0
HasAdded factors (Ok _) says after =
    (more : List Row) × (says ≡ Ok more) × HasGathered factors more after
HasAdded factors (Err fault) says after = IsRefused (cause fault) says

-- the rows of all records were gathered, or the first fault is answered
abbrev pub HasRead : ℕ → Result Gathered DataFault → Result (List Row) DataFault → Type 0
HasRead factors (Ok gathered) says =
    (rows : List Row) × (says ≡ Ok rows) × HasGathered factors rows gathered
HasRead factors (Err fault) says = IsRefused (cause fault) says
