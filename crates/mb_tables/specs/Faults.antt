-- The move and the table that a list of numbers is, or why it is none.
use Rattle.std.specs.Ordering.{int_eq}
use Rattle.std.specs.Prelude.{Bool, Err, List, None, Ok, Option, Result, Some, if◌then◌else◌, length, nat_lt, position, ℕ, ℤ}
use Rattle.mb_tables.specs.Entries.{lowest}
use Rattle.mb_tables.specs.Limits.{most_cells}
use Rattle.mb_tables.specs.declared.one_move.MoveFault.{MoveFault}
use Rattle.mb_tables.specs.declared.one_move.MoveFault.TheVariants as move_faults
use Rattle.mb_tables.specs.declared.table.TableFault.{TableFault}
use Rattle.mb_tables.specs.declared.table.TableFault.TheVariants as table_faults

-- whether a number is the one that is no entry
abbrev pub is_lowest : ℤ → Bool
is_lowest z = int_eq z lowest

-- the move of these entries, unless the first one that is no entry is in this cell
abbrev pub without_lowest : List ℤ → Option ℕ → Result (List ℤ) MoveFault
without_lowest entries None = Ok entries
without_lowest entries (Some cell) = Err (move_faults.EntryTooLarge cell)

-- the move of these entries: at most 64, none of them -(2 ^ 31)
abbrev pub move_of : List ℤ → Result (List ℤ) MoveFault
move_of entries =
    if nat_lt most_cells (length entries) then Err move_faults.TooManyCells
    else without_lowest entries (position is_lowest entries)

-- the cause of a refusal of a move; want of memory has none
abbrev pub move_cause : MoveFault → Option MoveFault
move_cause move_faults.OutOfMemory = None
move_cause fault = Some fault

-- the table of these counts: at most 64
abbrev pub table_of : List ℕ → Result (List ℕ) TableFault
table_of counts =
    if nat_lt most_cells (length counts) then Err table_faults.TooManyCells else Ok counts

-- the cause of a refusal of a table; want of memory has none
abbrev pub table_cause : TableFault → Option TableFault
table_cause table_faults.OutOfMemory = None
table_cause fault = Some fault
