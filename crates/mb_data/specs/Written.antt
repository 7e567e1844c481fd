-- The written form of a dataset.
use Rattle.std.specs.Prelude.{List, [], map, ℕ, ◌++◌, ◌∷◌}
use Rattle.std.specs.List.{flat_map, range_with_len, slice_index_or}
use Rattle.std.specs.Fmt.{decimal}
use Rattle.csv.specs.Writing.{default_writer, row_text}
use Rattle.mb_data.specs.CrossTable.{CrossTable, combination, combinations, named, sizes}
use Rattle.mb_data.specs.HeaderText.{count_word}
use Rattle.mb_data.specs.declared.entry.Entry.{Entry}
use Rattle.mb_data.specs.declared.entry.Entry.TheVariants.{Count, StructuralZero}

-- the count field of an entry
abbrev pub entry_text : Entry → List ℕ
entry_text (Count count) = decimal count
entry_text StructuralZero = 42 ∷ []

-- the record of a combination: its levels, and then its entry
abbrev pub record_of : CrossTable → ℕ → List (List ℕ)
record_of table number =
    named table.levels (combination (sizes table.levels) number)
    ++ entry_text (slice_index_or table.entries number StructuralZero) ∷ []

-- the header, and then a record of each combination in order
abbrev pub written_records : CrossTable → List (List (List ℕ))
written_records table =
    (table.factors ++ count_word ∷ [])
    ∷ map (record_of table) (range_with_len 0 (combinations (sizes table.levels)))

-- the written form: each record as the default writer of `csv` writes it
abbrev pub written : CrossTable → List ℕ
written table = flat_map (row_text default_writer) (written_records table)
