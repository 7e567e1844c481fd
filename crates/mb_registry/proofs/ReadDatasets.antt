-- A dataset that a text says is within the limits.
use Rattle.std.proofs.Common.{Bool, Err, List, None, Ok, Option, Some, [], ap, arith, false, leb-true, length, nat_le, refl, replicate, subst, suc, sum, sym, true, zero, ℕ, ◌&&◌, ◌+◌, ◌++◌, ◌==◌, ◌∙◌, ◌∷◌, ◌≡◌, ◌≤◌}
use Rattle.std.specs.List.{list_all, range_with_len, remove, slice_index_or}
use Rattle.std.specs.Map.{update}
use Rattle.std.specs.Option.{is_some}
use Rattle.std.specs.Prelude.{if◌then◌else◌, map}
use Rattle.std.specs.Str.{bytes_eq, is_utf8}
use Rattle.mb_data.proofs.AddedRows.{levels_are_texts}
use Rattle.mb_data.proofs.Finishing.{is_dataset, table, table_is}
use Rattle.mb_data.proofs.GatheredRows.{gathers_more, gathers_none}
use Rattle.mb_data.proofs.HeaderAgain.{header_again}
use Rattle.mb_data.proofs.KeyLaws.{and_left}
use Rattle.mb_data.proofs.RowSums.{first_sum, one_fits}
use Rattle.mb_data.proofs.SoundLevels.{gathered_sound}
use Rattle.mb_data.specs.CountField.{entry_of}
use Rattle.mb_data.specs.CrossTable.{CrossTable, combination, combinations, counted, counts, named, sizes}
use Rattle.mb_data.specs.Dataset.{IsCrossTable}
use Rattle.mb_data.specs.DatasetText.{Row, dataset_from, dataset_of, dataset_under, entries_of, entry_by_rows, entry_in, next_rows, row_at, row_of, rows_of, table_of, total_of, with_cells, with_levels, with_row}
use Rattle.mb_data.specs.HeaderText.{Columns, header_of}
use Rattle.mb_data.specs.Levels.{AreApart}
use Rattle.mb_data.specs.Records.{records_of}
use Rattle.mb_data.specs.declared.entry.Entry.{Entry}
use Rattle.mb_data.specs.declared.fault.DataFault.TheVariants.{Csv, NoCell, Repeated, TooManyCells, TotalTooLarge}
use Rattle.mb_data.specs.loops.Gathers.{Gathers}
use Rattle.mb_data.specs.loops.Headers.{IsHeader}
use Rattle.mb_data.specs.loops.Keys.{key_of}
use Rattle.mb_text.proofs.RecordSteps.{stepped}

-- what is kept of rows that were read, whose counts add up to at most 1,000,000
record Kept (factors : ℕ) (rows : List Row) : Type 0 where
  pub levels : List (List (List ℕ))
  pub entry_of_key : List ℕ → Option Entry
  pub total : ℕ
  pub gathers : Gathers factors rows levels entry_of_key total
  pub small : total ≤ 1000000

-- of none
kept_none : (factors : ℕ) → Kept factors []
kept_none factors = record {
  levels = replicate factors [];
  entry_of_key = λ key. None;
  total = 0;
  gathers = gathers_none factors (replicate factors []) (λ key. None) refl (λ key. refl);
  small = omega arith;
}

-- what isn't there
not_there : {A : Type 0} (o : Option A) → is_some o ≡ false → o ≡ None
not_there None e = refl
not_there (Some x) e = absurd (cc e)

-- with a row more
kept_more : (factors number : ℕ) (rows more : List Row) (row : Row) → Kept factors rows →
    list_all is_utf8 row.levels ≡ true → with_row number rows row ≡ Ok more → Kept factors more
kept_more factors number rows more row so_far text e =
    by (is_some (entry_by_rows rows row.levels)) refl
    (nat_le (total_of (rows ++ row ∷ [])) 1000000) refl e
  where
    by : (b : Bool) → is_some (entry_by_rows rows row.levels) ≡ b →
        (l : Bool) → nat_le (total_of (rows ++ row ∷ [])) 1000000 ≡ l →
        (if b then Err (Repeated number) else if l then Ok (rows ++ row ∷ [])
        else Err TotalTooLarge)
        ≡ Ok more → Kept factors more
    by true found l few e = absurd (cc e)
    by false found false few e = absurd (cc e)
    by false found true few e =
        let same : rows ++ row ∷ [] ≡ more = cc in
        let after =
        gathers_more factors rows row so_far.levels so_far.entry_of_key
        (λ key. update bytes_eq so_far.entry_of_key (key_of row.levels) (Some row.entry) key)
        so_far.total so_far.gathers text (not_there (entry_by_rows rows row.levels) found)
        (λ key. refl) in
        let fits = leb-true (total_of (rows ++ row ∷ [])) 1000000 few in
        subst (Kept factors) same (record {
          levels = with_levels so_far.levels row.levels;
          entry_of_key =
              λ key. update bytes_eq so_far.entry_of_key (key_of row.levels) (Some row.entry) key;
          total = so_far.total + counted row.entry;
          gathers = after;
          small = omega (arith, after.total_is, fits);
        })

-- the levels of a row are texts
row_text : (columns : Columns) (number : ℕ) (fields : List (List ℕ)) (row : Row) →
    row_of columns number fields ≡ Ok row → list_all is_utf8 row.levels ≡ true
row_text columns number fields row e =
    by (list_all is_utf8 fields && (length fields == length columns.factors + 1)) refl e
  where
    at : (o : Option Entry) → list_all is_utf8 fields ≡ true →
        row_at number columns.place fields o ≡ Ok row → list_all is_utf8 row.levels ≡ true
    at None all e = absurd (cc e)
    at (Some entry) all e =
        let same : record { levels = remove fields columns.place; entry = entry } ≡ row = cc in
        ap (λ (r : Row). list_all is_utf8 r.levels) (sym same)
        ∙ levels_are_texts fields columns.place all

    by : (b : Bool) →
        (list_all is_utf8 fields && (length fields == length columns.factors + 1)) ≡ b →
        (if b
        then row_at number columns.place fields (entry_of (slice_index_or fields columns.place []))
        else Err (Csv number)) ≡ Ok row →
        list_all is_utf8 row.levels ≡ true
    by false all e = absurd (cc e)
    by true all e =
        at (entry_of (slice_index_or fields columns.place []))
        (and_left (list_all is_utf8 fields) (length fields == length columns.factors + 1) all) e

-- with the rows of all records
rows_kept : (columns : Columns) (number : ℕ) (rows all : List Row)
    (records : List (List (List ℕ))) →
    Kept (length columns.factors) rows → rows_of columns number rows records ≡ Ok all →
    Kept (length columns.factors) all
unfolding rows_of
rows_kept columns number rows all [] so_far e =
    let same : rows ≡ all = cc in subst (Kept (length columns.factors)) same so_far
rows_kept columns number rows all (fields ∷ records) so_far e =
    let a =
    stepped (next_rows columns number rows fields)
    (λ more. rows_of columns (number + 1) more records) all e in
    let b = stepped (row_of columns number fields) (λ row. with_row number rows row) a.0 a.1 in
    rows_kept columns (number + 1) a.0 all records
    (kept_more (length columns.factors) number rows a.0 b.0 so_far
    (row_text columns number fields b.0 b.1) b.2)
    a.2

-- the counts of the first combinations add up to no more than those of the rows
counts_fit : (levels : List (List (List ℕ))) (rows : List Row) (n : ℕ) →
    ((k : ℕ) → AreApart (slice_index_or levels k [])) → n ≤ combinations (sizes levels) →
    sum (counts (map (λ k. entry_in rows (named levels (combination (sizes levels) k)))
    (range_with_len 0 n))) ≤ total_of rows
counts_fit levels rows zero apart within = omega arith
counts_fit levels rows (suc m) apart within =
    let entry : ℕ → Entry = λ k. entry_in rows (named levels (combination (sizes levels) k)) in
    let fits =
    one_fits levels rows m (sum (counts (map entry (range_with_len 0 m))))
    (map entry (range_with_len 0 m)) apart (omega arith) refl refl in
    let before = first_sum entry m in
    let now = first_sum entry (suc m) in
    omega (arith, fits, before, now)

-- the counts of the cells that rows give
abbrev counts_by : List Row → List (List (List ℕ)) → List ℕ
counts_by rows levels = counts (entries_of rows levels)

-- the table of rows that were read
table_sound : (factors : List (List ℕ)) (rows : List Row) (found : CrossTable) → IsHeader factors →
    Kept (length factors) rows → with_cells (table_of factors rows) ≡ Ok found → IsCrossTable found
table_sound factors rows found header kept e =
    by (length (counts_by rows kept.levels) == 0) refl
    (nat_le (length (counts_by rows kept.levels)) 64) refl
    (ap with_cells (sym (table_is factors rows kept.levels kept.entry_of_key kept.total
    (entries_of rows kept.levels) kept.gathers refl)) ∙ e)
  where
    by : (b : Bool) → (length (counts_by rows kept.levels) == 0) ≡ b →
        (l : Bool) → nat_le (length (counts_by rows kept.levels)) 64 ≡ l →
        (if b then Err NoCell
        else if l then Ok (table factors kept.levels (entries_of rows kept.levels))
        else Err TooManyCells) ≡ Ok found →
        IsCrossTable found
    by true some l few e = absurd (cc e)
    by false some false few e = absurd (cc e)
    by false some true few e =
        let same : table factors kept.levels (entries_of rows kept.levels) ≡ found = cc in
        let apart : (k : ℕ) → AreApart (slice_index_or kept.levels k []) =
        λ k. (gathered_sound (length factors) rows kept.levels kept.entry_of_key kept.total
        kept.gathers k).0 in
        let fits =
        counts_fit kept.levels rows (combinations (sizes kept.levels)) apart (omega arith) in
        let total = kept.gathers.total_is in
        let small = kept.small in
        subst IsCrossTable same
        (is_dataset factors rows kept.levels kept.entry_of_key kept.total
        (length (counts_by rows kept.levels)) (sum (counts_by rows kept.levels))
        (entries_of rows kept.levels) header kept.gathers refl
        (record {
          cells_are = refl;
          few = leb-true (length (counts_by rows kept.levels)) 64 few;
          total_is = refl;
          small = omega (arith, fits, total, small);
        })
        some).table_is

-- the dataset that a text says
pub dataset_sound : (text : List ℕ) (found : CrossTable) → dataset_of text ≡ Ok found →
    IsCrossTable found
unfolding dataset_of
dataset_sound text found e = from (records_of text) e
  where
    from : (records : List (List (List ℕ))) → dataset_from records ≡ Ok found → IsCrossTable found
    from [] e = absurd (cc e)
    from (first ∷ records) e =
        let a = stepped (header_of first) (λ columns. dataset_under columns records) found e in
        let b =
        stepped (rows_of a.0 2 [] records) (λ rows. with_cells (table_of a.0.factors rows)) found
        a.2 in
        table_sound a.0.factors b.0 found (header_again first a.0 a.1)
        (rows_kept a.0 2 [] b.0 records (kept_none (length a.0.factors)) b.1) b.2
