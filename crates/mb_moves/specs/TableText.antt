-- The table of a table file, which is written as a move file of one row.
use Rattle.std.specs.List.{list_all}
use Rattle.std.specs.Prelude.{Bool, Err, List, None, Ok, Option, Result, Some, [], if◌then◌else◌, int_le, map, nat_le, pos, sum, unsigned_abs, ℕ, ℤ, ◌&&◌, ◌==◌, ◌∷◌}
use Rattle.mb_tables.specs.Limits.{largest_total}
use Rattle.mb_tables.specs.Rows.{Rows}
use Rattle.mb_moves.specs.declared.table_text.NoTable.{NoTable}
use Rattle.mb_moves.specs.declared.table_text.NoTable.TheVariants.{NotATable, OutOfMemory}

-- what is the matter with a table file; want of memory says nothing of it
abbrev pub table_cause : NoTable → Option NoTable
table_cause NotATable = Some NotATable
table_cause OutOfMemory = None

-- whether a row's entries are counts that add up to no more than a table may hold
abbrev pub are_counts : List ℤ → Bool
are_counts entries =
    list_all (λ z. int_le (pos 0) z) entries
    && nat_le (sum (map unsigned_abs entries)) largest_total

-- the table that the only one of the rows is, over so many cells
abbrev pub only_row : ℕ → ℕ → List (List ℤ) → Result (List ℕ) NoTable
only_row cells width (entries ∷ []) =
    if width == cells && are_counts entries then Ok (map unsigned_abs entries) else Err NotATable
only_row cells width _ = Err NotATable

-- the table of a table file over so many cells
abbrev pub table_in : ℕ → Rows → Result (List ℕ) NoTable
table_in cells file = only_row cells file.width file.rows
