-- What is written is read back as the same dataset.
use Rattle.std.proofs.Common.{List, Ok, [], ap, append_assoc, arith, false, length, map, nat_eq, nat_le, not, refl, sym, true, ℕ, ◌+◌, ◌++◌, ◌==◌, ◌∙◌, ◌∷◌, ◌≡◌, ◌≤◌}
use Rattle.std.proofs.lemmas.Bool.{le-leb, ne_eqb, not-true}
use Rattle.std.specs.List.{list_all, range_with_len, starts_with}
use Rattle.std.specs.Str.{is_utf8}
use Rattle.csv.specs.Reading.{default_config, records_from, strip_bom}
use Rattle.csv.specs.Writing.{default_writer, field_text, read_back, row_text}
use Rattle.csv.specs.declared.parser.State.TheVariants as st
use Rattle.mb_data.proofs.HeaderAgain.{texts_passed}
use Rattle.mb_data.proofs.KeyLaws.{and_left, and_right}
use Rattle.mb_data.proofs.ReadBack.{few_rows, field_start, text_of, turns}
use Rattle.mb_data.proofs.ReadTexts.{header_read, rows_said}
use Rattle.mb_data.proofs.RowsAgain.{columns_in, entries_again, rows_again, rows_to}
use Rattle.mb_data.proofs.WrittenLevels.{levels_again}
use Rattle.mb_data.proofs.WrittenRows.{row_whole}
use Rattle.mb_data.specs.CrossTable.{CrossTable, combinations, counts, sizes}
use Rattle.mb_data.specs.Dataset.{IsCrossTable}
use Rattle.mb_data.specs.DatasetText.{dataset_of, entries_of, table_of, with_cells}
use Rattle.mb_data.specs.HeaderText.{count_word, is_header_field, order_mark}
use Rattle.mb_data.specs.Records.{records_of}
use Rattle.mb_data.specs.Written.{record_of, written, written_records}
use Rattle.mb_data.specs.declared.entry.Entry.{Entry}
use Rattle.mb_data.specs.loops.Commas.{with_commas}

-- a header field doesn't begin with a byte order mark
no_mark : (field : List ℕ) → is_header_field field ≡ true
    → starts_with nat_eq field order_mark ≡ false
no_mark field is =
    not-true (starts_with nat_eq field order_mark)
    (and_right (is_utf8 field) (not (starts_with nat_eq field order_mark)) is)

-- nor does a written header
start : (first last : List ℕ) (more : List (List ℕ)) (rest : List ℕ)
    → is_header_field first ≡ true
    → strip_bom (row_text default_writer ((first ∷ more) ++ last ∷ []) ++ rest)
    ≡ row_text default_writer ((first ∷ more) ++ last ∷ []) ++ rest
unfolding with_commas
start first last more rest is =
    let end = field_text default_writer last ++ 10 ∷ [] in
    let tail = (with_commas more ++ end) ++ rest in
    let whole : row_text default_writer ((first ∷ more) ++ last ∷ []) ++ rest
    ≡ field_text default_writer first ++ 44 ∷ tail =
    ap (λ text. text ++ rest) (row_whole (first ∷ more) last (omega arith))
    ∙ ap (λ text. text ++ rest)
    (append_assoc (field_text default_writer first) (44 ∷ with_commas more) end)
    ∙ append_assoc (field_text default_writer first) (44 ∷ (with_commas more ++ end)) rest in
    ap strip_bom whole ∙ field_start first tail (no_mark first is) ∙ sym whole

-- so nothing of it is skipped
unskipped : (factors : List (List ℕ)) (rest : List ℕ) → 1 ≤ length factors
    → list_all is_header_field (factors ++ count_word ∷ []) ≡ true
    → strip_bom (row_text default_writer (factors ++ count_word ∷ []) ++ rest)
    ≡ row_text default_writer (factors ++ count_word ∷ []) ++ rest
unskipped [] rest some all = absurd (omega (arith, some))
unskipped (first ∷ more) rest some all =
    start first count_word more rest
    (and_left (is_header_field first) (list_all is_header_field (more ++ count_word ∷ [])) all)

-- a record with a last field reads back as itself
last_back : (fields : List (List ℕ)) (last : List ℕ)
    → read_back (fields ++ last ∷ []) ≡ fields ++ last ∷ []
last_back [] last = refl
last_back (field ∷ fields) last = refl

-- so do the records of combinations
rows_back : (table : CrossTable) (numbers : List ℕ)
    → map read_back (map (record_of table) numbers) ≡ map (record_of table) numbers
rows_back table [] = refl
rows_back table (number ∷ numbers) =
    ap (λ (row : List (List ℕ)). row ∷ map read_back (map (record_of table) numbers))
    (last_back _ _)
    ∙ ap (λ rows. record_of table number ∷ rows) (rows_back table numbers)

-- the records of the written text
texts_read : (table : CrossTable) → IsCrossTable table
    → records_of (written table) ≡ written_records table
texts_read table is =
    let header = table.factors ++ count_word ∷ [] in
    let rows = map (record_of table) (range_with_len 0 (combinations (sizes table.levels))) in
    let all = (texts_passed header (columns_in table) is.header).0 in
    let same : strip_bom (written table) ≡ written table =
    unskipped table.factors (text_of rows) is.some_factors all in
    ap (λ text. records_from default_config (length text + 1) st.StartRecord text) same
    ∙ turns (header ∷ rows) (length (written table) + 1) (omega (arith, few_rows (header ∷ rows)))
    ∙ ap (λ (row : List (List ℕ)). row ∷ map read_back rows) (last_back table.factors count_word)
    ∙ ap (λ rows. header ∷ rows) (rows_back table
    (range_with_len 0 (combinations (sizes table.levels))))

-- where there are cells, there are entries
pub some_entries : (entries : List Entry) → 1 ≤ length (counts entries) → 1 ≤ length entries
some_entries [] some = absurd (omega (arith, some))
some_entries (entry ∷ entries) some = omega arith

-- a table with another list of levels or entries
abbrev with_levels_of : CrossTable → List (List (List ℕ)) → List Entry → CrossTable
with_levels_of table levels entries = record {
  factors = table.factors;
  levels = levels;
  entries = entries;
}

-- what is written is read
pub written_read : (table : CrossTable) → IsCrossTable table → dataset_of (written table) ≡ Ok table
written_read table is =
    let all = combinations (sizes table.levels) in
    let rows = rows_to table all in
    let left = map (record_of table) (range_with_len 0 all) in
    let some : 1 ≤ all = omega (arith, some_entries table.entries is.some_cells, is.full) in
    let same : table_of table.factors rows ≡ table =
    ap (λ levels. with_levels_of table levels (entries_of rows levels)) (levels_again table is some)
    ∙ ap (λ entries. with_levels_of table table.levels entries) (entries_again table is) in
    let cells = length (counts table.entries) in
    let more : (cells == 0) ≡ false = ne_eqb cells 0
    (λ none. absurd (omega (arith, none, is.some_cells))) in
    let few : nat_le cells 64 ≡ true = le-leb cells 64 is.few_cells in
    header_read (written table) (table.factors ++ count_word ∷ []) left (columns_in table)
    (texts_read table is) is.header
    ∙ rows_said (columns_in table) left rows (rows_again table is)
    ∙ ap with_cells same ∙ rw (more, few) refl
