-- What is kept of the rows when a record is added.
use Rattle.std.proofs.Common.{Bool, Err, List, None, Ok, Option, Some, [], ap, false, inl, inr, length, refl, replicate, suc, sym, true, zero, ℕ, ◌&&◌, ◌+◌, ◌++◌, ◌==◌, ◌∙◌, ◌∷◌, ◌≡◌}
use Rattle.std.specs.Cmp.Lexicographic.{pointwise_decides}
use Rattle.std.specs.List.{find, list_all, remove, slice_get, slice_index_or}
use Rattle.std.specs.Map.{update}
use Rattle.std.specs.Option.{option_map, option_or}
use Rattle.std.specs.Str.{bytes_eq, is_utf8}
use Rattle.std.proofs.lemmas.List.Sums.{sum_by_push}
use Rattle.std.proofs.lemmas.Bool.{cases_Bool}
use Rattle.std.proofs.lemmas.List.{length-replicate}
use Rattle.std.proofs.lemmas.List.FromFn.{length-map-range_with_len}
use Rattle.std.proofs.lemmas.List.Folds.{find-append}
use Rattle.std.proofs.lemmas.Slice.Eq.{bytes_eq-Decides}
use Rattle.mb_data.specs.CountField.{entry_of}
use Rattle.mb_data.specs.CrossTable.{counted}
use Rattle.mb_data.specs.DatasetText.{Row, entry_by_rows, levels_after, row_of, same_levels, with_levels}
use Rattle.mb_data.specs.HeaderText.{Columns}
use Rattle.mb_data.specs.declared.entry.Entry.{Entry}
use Rattle.mb_data.specs.declared.fault.DataFault.TheVariants.{BadCount}
use Rattle.mb_data.specs.loops.CappedEntries.{capped_entry}
use Rattle.mb_data.specs.loops.Gathers.{Gathers}
use Rattle.mb_data.specs.loops.Keys.{key_of}
use Rattle.mb_data.proofs.KeyLaws.{key_names}

-- the row of a record of texts whose count field is an entry
pub row_said : (columns : Columns) (number : ℕ) (fields : List (List ℕ)) (read : Option Entry)
    (entry : Entry)
    → (list_all is_utf8 fields && (length fields == length columns.factors + 1)) ≡ true
    → entry_of (slice_index_or fields columns.place []) ≡ read
    → Some entry ≡ option_map capped_entry read
    → (full : Entry)
    × (row_of columns number fields
    ≡ Ok (record { levels = remove fields columns.place; entry = full }))
    × (entry ≡ capped_entry full)
row_said columns number fields None entry text is capped = absurd (cc capped)
row_said columns number fields (Some full) entry text is capped =
    (full, rw (text, is) refl, cc capped)

-- a record of texts whose count field is none
pub count_refused : (columns : Columns) (number : ℕ) (fields : List (List ℕ)) (read : Option Entry)
    → (list_all is_utf8 fields && (length fields == length columns.factors + 1)) ≡ true
    → entry_of (slice_index_or fields columns.place []) ≡ read
    → None ≡ option_map capped_entry read
    → row_of columns number fields ≡ Err (BadCount number)
count_refused columns number fields None text is capped = rw (text, is) refl
count_refused columns number fields (Some full) text is capped = absurd (cc capped)

-- two lists of levels are the same exactly where the test passes
same_decides : (some others : List (List ℕ)) → same_levels some others ≡ true → some ≡ others
same_decides some others is = (pointwise_decides bytes_eq-Decides some others).0 is

same_self : (names : List (List ℕ)) → same_levels names names ≡ true
same_self names = (pointwise_decides bytes_eq-Decides names names).1 refl

-- the levels after a row more
pub levels_more : (levels : List (List (List ℕ))) (rows : List Row) (row : Row)
    → levels_after levels (rows ++ row ∷ []) ≡ with_levels (levels_after levels rows) row.levels
unfolding levels_after
levels_more levels [] row = refl
levels_more levels (first ∷ rows) row = levels_more (with_levels levels first.levels) rows row

-- the entry of a row found, where none was before
found_last : (found last : Option Row) (names : List (List ℕ))
    → option_map (λ (row : Row). row.entry) found ≡ None
    → option_map (λ (row : Row). row.entry) (option_or found last)
    ≡ option_map (λ (row : Row). row.entry) last
found_last None last names none = refl
found_last (Some row) last names none = absurd (cc none)

-- a row that isn't found changes nothing
found_first : (found : Option Row) → option_or found None ≡ found
found_first None = refl
found_first (Some row) = refl

-- the entry of other names stays when a row is added
pub entry_stays : (rows : List Row) (row : Row) (names : List (List ℕ))
    → same_levels row.levels names ≡ false
    → entry_by_rows (rows ++ row ∷ []) names ≡ entry_by_rows rows names
entry_stays rows row names other =
    let here : find (λ (row : Row). same_levels row.levels names) (row ∷ [])
    ≡ None = rw other refl in
    ap (option_map (λ (row : Row). row.entry))
    (find-append (λ (row : Row). same_levels row.levels names) rows (row ∷ [])
    ∙ rw here (found_first (find (λ (row : Row). same_levels row.levels names) rows)))

-- the entry of the row's own levels is the row's
pub entry_added : (rows : List Row) (row : Row) → entry_by_rows rows row.levels ≡ None
    → entry_by_rows (rows ++ row ∷ []) row.levels ≡ Some row.entry
entry_added rows row new =
    let test : Row → Bool = λ (earlier : Row). same_levels earlier.levels row.levels in
    let here : find test (row ∷ []) ≡ Some row = rw (same_self row.levels) refl in
    ap (option_map (λ (row : Row). row.entry)) (find-append test rows (row ∷ []))
    ∙ found_last (find test rows) (find test (row ∷ [])) row.levels new
    ∙ ap (option_map (λ (row : Row). row.entry)) here

-- the rows have no texts but texts, also with a row more
texts_more : (rows : List Row) (row : Row)
    → ((k : ℕ) (r : Row) → slice_get rows k ≡ Some r → list_all is_utf8 r.levels ≡ true)
    → list_all is_utf8 row.levels ≡ true
    → (k : ℕ) (r : Row) → slice_get (rows ++ row ∷ []) k ≡ Some r → list_all is_utf8 r.levels ≡ true
texts_more [] row texts text zero r is =
    ap (λ (row : Row). list_all is_utf8 row.levels) (sym (let e : row ≡ r = cc is in e)) ∙ text
texts_more [] row texts text (suc k) r is = absurd (cc is)
texts_more (first ∷ rows) row texts text zero r is = texts zero r is
texts_more (first ∷ rows) row texts text (suc k) r is =
    texts_more rows row (λ k. texts (suc k)) text k r is

-- other names have another key
keys_apart : (some others : List (List ℕ)) → list_all is_utf8 some ≡ true
    → list_all is_utf8 others ≡ true → same_levels some others ≡ false
    → bytes_eq (key_of some) (key_of others) ≡ false
keys_apart some others text texts other =
    elim (cases_Bool (bytes_eq (key_of some) (key_of others))) [
      | inl same ↦
          let is : some ≡ others = key_names some others text texts
          ((bytes_eq-Decides (key_of some) (key_of others)).0 same) in
          absurd (cc (sym (same_self some) ∙ ap (same_levels some) is ∙ other))
      | inr apart ↦ apart
    ]

-- what is kept goes along with a row more
pub gathers_more : (factors : ℕ) (rows : List Row) (row : Row) (levels : List (List (List ℕ)))
    (before after : List ℕ → Option Entry) (total : ℕ)
    → Gathers factors rows levels before total
    → list_all is_utf8 row.levels ≡ true
    → entry_by_rows rows row.levels ≡ None
    → ((key : List ℕ) → after key
    ≡ update bytes_eq before (key_of row.levels) (Some row.entry) key)
    → Gathers factors (rows ++ row ∷ []) (with_levels levels row.levels) after
    (total + counted row.entry)
gathers_more factors rows row levels before after total so_far text new put = record {
  wide = length-map-range_with_len _ 0 (length levels) ∙ so_far.wide;
  levels_are =
      ap (λ old. with_levels old row.levels) so_far.levels_are
      ∙ sym (levels_more (replicate factors []) rows row);
  texts = texts_more rows row so_far.texts text;
  entries = λ names texts. elim (cases_Bool (same_levels row.levels names)) [
    | inl same ↦
        let is : row.levels ≡ names = same_decides row.levels names same in
        put (key_of names)
        ∙ rw ((bytes_eq-Decides (key_of row.levels) (key_of names)).1 (ap key_of is))
        (sym (ap (entry_by_rows (rows ++ row ∷ [])) (sym is) ∙ entry_added rows row new))
    | inr other ↦
        put (key_of names)
        ∙ rw (keys_apart row.levels names text texts other)
        (so_far.entries names texts ∙ sym (entry_stays rows row names other))
  ];
  total_is = ap (λ n. n + counted row.entry) so_far.total_is
      ∙ sym (sum_by_push (λ (row : Row). counted row.entry) rows row);
}

-- what is kept of no row
pub gathers_none : (factors : ℕ) (levels : List (List (List ℕ))) (kept : List ℕ → Option Entry)
    → levels ≡ replicate factors [] → ((key : List ℕ) → kept key ≡ None)
    → Gathers factors [] levels kept 0
unfolding levels_after
gathers_none factors levels kept is none = record {
  wide = ap (λ (list : List (List (List ℕ))). length list) is ∙ length-replicate factors [];
  levels_are = is;
  texts = λ k row there. absurd (cc there);
  entries = λ names texts. none (key_of names);
  total_is = refl;
}
