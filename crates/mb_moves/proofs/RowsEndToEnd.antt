-- Rows end to end, and arrays of entries.
use Rattle.std.proofs.Common.{All, List, [], ap, arith, drop, length, refl, suc, sym, ℕ, ℤ, ◌*◌, ◌++◌, ◌≡◌, ◌≤◌, ◌∙◌, ◌∷◌}
use Rattle.std.proofs.lemmas.List.{drop_at, flat_map_more, length-append, take_at}
use Rattle.std.proofs.lemmas.List.Elements.{All-append, All-head, All-nil, All-tail}
use Rattle.std.specs.List.{flat_map}
use Rattle.mb_tables.proofs.RowsOfEntries.{length-rows_of, rows_each, rows_wide}
use Rattle.mb_tables.specs.Entries.{IsEntry}
use Rattle.mb_tables.specs.Limits.{most_cells}
use Rattle.mb_tables.specs.Rows.{AreRows, Rows, array_of, rows_of}

-- rows end to end
abbrev pub end_to_end : List (List ℤ) → List ℤ
end_to_end rows = flat_map (λ row. row) rows

-- entries and their sizes make an array
pub rows_made : (lowest highest width count : ℕ) (entries : List ℤ) →
    lowest ≤ count → count ≤ highest → 1 ≤ width → width ≤ most_cells →
    length entries ≡ count * width → All IsEntry entries →
    AreRows lowest highest (array_of width count entries)
rows_made lowest highest width count entries some few positive narrow full each =
    let size = length-rows_of width count entries in record {
      positive = positive;
      narrow = narrow;
      each = rows_wide width count entries full;
      some = omega arith;
      few = omega arith;
      entries = rows_each IsEntry width count entries each;
    }

-- rows of one width have so many entries in all
pub length-end_to_end : (width : ℕ) (rows : List (List ℤ)) → All (λ row. length row ≡ width) rows →
    length (end_to_end rows) ≡ length rows * width
length-end_to_end width [] each = omega arith
length-end_to_end width (row ∷ rows) each =
    let wide = All-head (λ (row : List ℤ). length row ≡ width) row rows each in
    let others =
    length-end_to_end width rows (All-tail (λ (row : List ℤ). length row ≡ width) row rows each) in
    let both = length-append row (end_to_end rows) in
    omega arith

-- so many rows of one width
pub all_rows : (count width : ℕ) (rows : List (List ℤ)) → length rows ≡ count →
    All (λ row. length row ≡ width) rows → length (end_to_end rows) ≡ count * width
all_rows count width rows e each = length-end_to_end width rows each ∙ ap (λ n. n * width) e

-- all of their numbers are entries, where those of each row are
pub entries_end_to_end : (rows : List (List ℤ)) → All (λ row. All IsEntry row) rows →
    All IsEntry (end_to_end rows)
entries_end_to_end [] each = All-nil IsEntry
entries_end_to_end (row ∷ rows) each =
    All-append IsEntry row (end_to_end rows)
    (All-head (λ (row : List ℤ). All IsEntry row) row rows each)
    (entries_end_to_end rows (All-tail (λ (row : List ℤ). All IsEntry row) row rows each))

-- a row in front is cut off first
pub rows_of-front : (width count : ℕ) (row left : List ℤ) → length row ≡ width →
    rows_of width (suc count) (row ++ left) ≡ row ∷ rows_of width count left
unfolding rows_of
rows_of-front width count row left wide =
    ap (λ first. first ∷ rows_of width count (drop width (row ++ left)))
    (take_at row left width wide)
    ∙ ap (λ more. row ∷ rows_of width count more) (drop_at row left width wide)

-- rows end to end are cut into these rows
pub rows_of-end_to_end : (width : ℕ) (rows : List (List ℤ)) → All (λ row. length row ≡ width) rows →
    rows_of width (length rows) (end_to_end rows) ≡ rows
unfolding rows_of
rows_of-end_to_end width [] each = refl
rows_of-end_to_end width (row ∷ rows) each =
    let wide = All-head (λ (row : List ℤ). length row ≡ width) row rows each in
    let others = rows_of-end_to_end width rows
    (All-tail (λ (row : List ℤ). length row ≡ width) row rows each) in
    rows_of-front width (length rows) row (end_to_end rows) wide ∙ ap (λ left. row ∷ left) others

-- an array is made of its rows end to end
pub array_of-end_to_end : (array : Rows) (count width : ℕ) →
    array.width ≡ width → length array.rows ≡ count →
    All (λ row. length row ≡ width) array.rows →
    array_of width count (end_to_end array.rows) ≡ array
array_of-end_to_end array count width wide size each =
    let made : ℕ → List (List ℤ) → Rows = λ w r. record { width = w; rows = r } in
    ap (λ w. made w (rows_of width count (end_to_end array.rows))) (sym wide)
    ∙ ap (λ n. made array.width (rows_of width n (end_to_end array.rows))) (sym size)
    ∙ ap (made array.width) (rows_of-end_to_end width array.rows each)

-- one row more at the end
pub end_to_end-push : (rows : List (List ℤ)) (row : List ℤ) →
    end_to_end (rows ++ row ∷ []) ≡ end_to_end rows ++ row
end_to_end-push rows row = sym (flat_map_more (λ (r : List ℤ). r) [] rows row)
