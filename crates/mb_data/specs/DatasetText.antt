-- What the records of a text say: a cross-classified table, or the first fault.
use Rattle.std.specs.Cmp.Lexicographic.{pointwise}
use Rattle.std.specs.List.{find, list_all, range_with_len, remove, slice_index_or, sum_by}
use Rattle.std.specs.Option.{is_some, option_map, unwrap_or}
use Rattle.std.specs.Prelude.{Bool, Err, List, None, Ok, Option, Result, Some, [], if◌then◌else◌, length, map, nat_le, replicate, ℕ, ◌&&◌, ◌+◌, ◌++◌, ◌==◌, ◌∷◌}
use Rattle.std.specs.Str.{bytes_eq, is_utf8}
use Rattle.mb_data.specs.CountField.{entry_of}
use Rattle.mb_data.specs.CrossTable.{CrossTable, combination, combinations, counted, counts, named, sizes}
use Rattle.mb_data.specs.HeaderText.{Columns, header_of}
use Rattle.mb_data.specs.Levels.{with_name}
use Rattle.mb_data.specs.Records.{records_of}
use Rattle.mb_data.specs.declared.entry.Entry.{Entry}
use Rattle.mb_data.specs.declared.entry.Entry.TheVariants.{Count}
use Rattle.mb_data.specs.declared.fault.DataFault.{DataFault}
use Rattle.mb_data.specs.declared.fault.DataFault.TheVariants.{BadCount, Csv, NoCell, Repeated, TooManyCells, TotalTooLarge}
use Rattle.mb_tables.specs.Answers.{◌>>=◌}

-- a record of levels, one of each factor, and an entry
pub record Row : Type 0 where
  pub levels : List (List ℕ)
  pub entry : Entry

-- the row of these fields, where the count field is an entry
abbrev pub row_at : ℕ → ℕ → List (List ℕ) → Option Entry → Result Row DataFault
row_at number place fields None = Err (BadCount number)
row_at number place fields (Some entry) =
    Ok (record { levels = remove fields place; entry = entry })

-- the row that the record of a number is, or its fault
abbrev pub row_of : Columns → ℕ → List (List ℕ) → Result Row DataFault
row_of columns number fields =
    if list_all is_utf8 fields && (length fields == length columns.factors + 1)
    then row_at number columns.place fields (entry_of (slice_index_or fields columns.place []))
    else Err (Csv number)

-- whether two lists of levels are the same
abbrev pub same_levels : List (List ℕ) → List (List ℕ) → Bool
same_levels some others = pointwise bytes_eq some others

-- the counts of rows, added up
abbrev pub total_of : List Row → ℕ
total_of rows = sum_by (λ (row : Row). counted row.entry) rows

-- the entry that the rows give to levels of these names, if any
abbrev pub entry_by_rows : List Row → List (List ℕ) → Option Entry
entry_by_rows rows names =
    option_map (λ (row : Row). row.entry)
    (find (λ (row : Row). same_levels row.levels names) rows)

-- the rows with one more, from the record of a number, or its fault
abbrev pub with_row : ℕ → List Row → Row → Result (List Row) DataFault
with_row number rows row =
    if is_some (entry_by_rows rows row.levels) then Err (Repeated number)
    else if nat_le (total_of (rows ++ row ∷ [])) 1000000 then Ok (rows ++ row ∷ [])
    else Err TotalTooLarge

-- the rows with the one of a record, or its fault
abbrev pub next_rows : Columns → ℕ → List Row → List (List ℕ) → Result (List Row) DataFault
next_rows columns number rows fields = row_of columns number fields
    >>= λ row. with_row number rows row

-- the rows of the records from a number on, after earlier rows, or the first fault
unfoldable pub rows_of : Columns → ℕ → List Row → List (List (List ℕ)) →
    Result (List Row) DataFault
rows_of columns number rows [] = Ok rows
rows_of columns number rows (fields ∷ records) =
    next_rows columns number rows fields >>= λ more. rows_of columns (number + 1) more records

-- the names of the levels of each factor, after those of a further row
abbrev pub with_levels : List (List (List ℕ)) → List (List ℕ) → List (List (List ℕ))
with_levels levels row =
    map (λ k. with_name (slice_index_or levels k []) (slice_index_or row k []))
    (range_with_len 0 (length levels))

-- the names of the levels of each factor, by first appearance in the rows
unfoldable pub levels_after : List (List (List ℕ)) → List Row → List (List (List ℕ))
levels_after levels [] = levels
levels_after levels (row ∷ rows) = levels_after (with_levels levels row.levels) rows

-- the entry of a combination: what its row says, and a count of 0 where there is no row
abbrev pub entry_in : List Row → List (List ℕ) → Entry
entry_in rows names = unwrap_or (entry_by_rows rows names) (Count 0)

-- the entries of all combinations of these levels
abbrev pub entries_of : List Row → List (List (List ℕ)) → List Entry
entries_of rows levels =
    map (λ k. entry_in rows (named levels (combination (sizes levels) k)))
    (range_with_len 0 (combinations (sizes levels)))

-- the table of the rows under these factors
abbrev pub table_of : List (List ℕ) → List Row → CrossTable
table_of factors rows =
    let levels = levels_after (replicate (length factors) []) rows in
    record { factors = factors; levels = levels; entries = entries_of rows levels }

-- a table of 1 to 64 cells
abbrev pub with_cells : CrossTable → Result CrossTable DataFault
with_cells table =
    if length (counts table.entries) == 0 then Err NoCell
    else if nat_le (length (counts table.entries)) 64 then Ok table else Err TooManyCells

-- what the records after a header say, record by record, and then the cells
abbrev pub dataset_under : Columns → List (List (List ℕ)) → Result CrossTable DataFault
dataset_under columns records =
    rows_of columns 2 [] records >>= λ rows. with_cells (table_of columns.factors rows)

-- what records say: the header first
abbrev pub dataset_from : List (List (List ℕ)) → Result CrossTable DataFault
dataset_from [] = Err (Csv 1)
dataset_from (first ∷ records) = header_of first >>= λ columns. dataset_under columns records

-- what a text says
unfoldable pub dataset_of : List ℕ → Result CrossTable DataFault
dataset_of text = dataset_from (records_of text)
