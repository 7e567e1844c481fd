-- The rows of the written records give the table back.
use Rattle.std.proofs.Common.{Bool, List, None, Ok, Option, Result, Some, [], ap, arith, false, get_or, inl, inr, length, map, nat_le, refl, suc, sum, sym, true, zero, ℕ, ◌+◌, ◌++◌, ◌<◌, ◌^◌, ◌∙◌, ◌∷◌, ◌≡◌, ◌≢◌, ◌≤◌, ◌⊎◌}
use Rattle.std.proofs.Math.Dec.{ltb}
use Rattle.std.proofs.lemmas.Bool.{cases_Bool, le-leb, ltb-false, ltb-true}
use Rattle.std.proofs.lemmas.List.FromFn.{fill_by_all, map-range_with_len_more}
use Rattle.std.proofs.lemmas.Slice.Eq.{bytes_eq-Decides}
use Rattle.std.specs.Cmp.Lexicographic.{pointwise_decides}
use Rattle.std.specs.List.{range_with_len}
use Rattle.std.specs.Option.{is_some, unwrap_or}
use Rattle.mb_data.specs.CrossTable.{CrossTable, combination, combinations, counted, counts, named, sizes}
use Rattle.mb_data.specs.Dataset.{IsCrossTable}
use Rattle.mb_data.specs.DatasetText.{Row, entries_of, entry_by_rows, entry_in, next_rows, rows_of, same_levels, total_of}
use Rattle.mb_data.specs.HeaderText.{Columns}
use Rattle.mb_data.specs.Written.{record_of}
use Rattle.mb_data.specs.declared.entry.Entry.{Entry}
use Rattle.mb_data.specs.declared.entry.Entry.TheVariants.{Count, StructuralZero}
use Rattle.mb_data.specs.declared.fault.DataFault.{DataFault}
use Rattle.std.proofs.lemmas.List.Sums.{sum_by_push}
use Rattle.mb_data.proofs.CombinationNames.{each_named}
use Rattle.mb_data.proofs.GatheredRows.{entry_added, entry_stays}
use Rattle.mb_data.proofs.RowSums.{first_sum, names_differ, sum_to}
use Rattle.mb_data.proofs.SoundLevels.{named_texts}
use Rattle.mb_data.proofs.WrittenFields.{row_again}

-- the row of a combination
abbrev pub row_in : CrossTable → ℕ → Row
row_in table number =
    record {
      levels = named table.levels (combination (sizes table.levels) number);
      entry = get_or table.entries number StructuralZero;
    }

-- the rows of the first combinations
abbrev pub rows_to : CrossTable → ℕ → List Row
rows_to table number = map (row_in table) (range_with_len 0 number)

-- the columns of a written table
abbrev pub columns_in : CrossTable → Columns
columns_in table = record { factors = table.factors; place = length table.factors }

-- one row more
pub rows_next : (table : CrossTable) (n : ℕ)
    → rows_to table (suc n) ≡ rows_to table n ++ row_in table n ∷ []
rows_next table n =
    ap (λ m. rows_to table m) (let e : suc n ≡ n + 1 = omega arith in e)
    ∙ map-range_with_len_more (row_in table) 0 n n (omega arith)

-- the rows of two combinations don't have the same levels
others_differ : (table : CrossTable) (i j : ℕ) → IsCrossTable table
    → i < combinations (sizes table.levels) → j < combinations (sizes table.levels) → i ≢ j
    → same_levels (row_in table i).levels (row_in table j).levels ≡ false
others_differ table i j is within_i within_j differ =
    let some = (row_in table i).levels in
    let others = (row_in table j).levels in
    elim (cases_Bool (same_levels some others)) [
      | inl same ↦
          absurd (differ (names_differ table.levels i j is.apart within_i within_j
          ((pointwise_decides bytes_eq-Decides some others).0 same)))
      | inr other ↦ other
    ]

-- no row before has the levels of a combination
pub none_earlier : (table : CrossTable) (n k : ℕ) → IsCrossTable table
    → k < combinations (sizes table.levels) → n ≤ k
    → entry_by_rows (rows_to table n) (row_in table k).levels ≡ None
none_earlier table zero k is within before = refl
none_earlier table (suc n) k is within before =
    ap (λ rows. entry_by_rows rows (row_in table k).levels) (rows_next table n)
    ∙ entry_stays (rows_to table n) (row_in table n) (row_in table k).levels
    (others_differ table n k is (omega (arith, within, before)) within
    (λ same. absurd (omega (arith, same, before))))
    ∙ none_earlier table n k is within (omega (arith, before))

-- after its row a combination has its entry
pub entry_found : (table : CrossTable) (n k : ℕ) → IsCrossTable table
    → n ≤ combinations (sizes table.levels) → k < n
    → entry_by_rows (rows_to table n) (row_in table k).levels ≡ Some (row_in table k).entry
entry_found table zero k is within below = absurd (omega (arith, below))
entry_found table (suc n) k is within below =
    ap (λ rows. entry_by_rows rows (row_in table k).levels) (rows_next table n)
    ∙ elim (which (ltb k n) refl) [
      | inl earlier ↦
          entry_stays (rows_to table n) (row_in table n) (row_in table k).levels
          (others_differ table n k is (omega (arith, within)) (omega (arith, within, below))
          (λ same. absurd (omega (arith, same, earlier))))
          ∙ entry_found table n k is (omega (arith, within)) earlier
      | inr last ↦
          let same : n ≡ k = omega (arith, last, below) in
          ap (λ m. entry_by_rows (rows_to table n ++ row_in table m ∷ [])
          (row_in table k).levels) same
          ∙ entry_added (rows_to table n) (row_in table k)
          (none_earlier table n k is (omega (arith, within, below)) (omega (arith, same)))
    ]
  where
    which : (b : Bool) → ltb k n ≡ b → (k < n) ⊎ (n ≤ k)
    which true is = inl (ltb-true k n is)
    which false is = inr (ltb-false k n is)

-- the entries of a table, one by one
entries_are : (table : CrossTable) → IsCrossTable table
    → table.entries
    ≡ map (λ k. get_or table.entries k StructuralZero)
    (range_with_len 0 (combinations (sizes table.levels)))
entries_are table is =
    fill_by_all (λ k. get_or table.entries k StructuralZero) table.entries
    (combinations (sizes table.levels)) StructuralZero is.full (λ k within. refl)

-- the total of the first rows
rows_total : (table : CrossTable) (n : ℕ)
    → total_of (rows_to table n) ≡ sum_to (λ k. counted (get_or table.entries k StructuralZero)) n
rows_total table zero = refl
rows_total table (suc n) =
    ap total_of (rows_next table n)
    ∙ sum_by_push (λ (row : Row). counted row.entry) (rows_to table n) (row_in table n)
    ∙ ap (λ m. m + counted (get_or table.entries n StructuralZero)) (rows_total table n)

-- a sum of fewer values is no more
fewer : (f : ℕ → ℕ) (n m : ℕ) → n ≤ m → sum_to f n ≤ sum_to f m
fewer f n zero less = let none : n ≡ 0 = omega (arith, less) in
    rw none (let e : 0 ≤ 0 = omega arith in e)
fewer f n (suc m) less = elim (up_to n m less) [
  | inl before ↦ omega (arith, fewer f n m before)
  | inr same ↦ rw same (let e : sum_to f (suc m) ≤ sum_to f (suc m) = omega arith in e)
]
  where
    up_to : (n m : ℕ) → n ≤ suc m → (n ≤ m) ⊎ (n ≡ suc m)
    up_to n m less = grind (arith, less)

-- the total of the first rows is at most 1,000,000
total_small : (table : CrossTable) (n : ℕ) → IsCrossTable table
    → n ≤ combinations (sizes table.levels) → total_of (rows_to table n) ≤ 1000000
total_small table n is within =
    let f : ℕ → ℕ = λ k. counted (get_or table.entries k StructuralZero) in
    let all : sum (counts table.entries) ≡ sum_to f (combinations (sizes table.levels)) =
    ap (λ list. sum (counts list)) (entries_are table is)
    ∙ first_sum (λ k. get_or table.entries k StructuralZero) (combinations (sizes table.levels)) in
    omega (
      arith,
      rows_total table n,
      fewer f n (combinations (sizes table.levels))
          within,
      all,
      is.total,
    )

-- the count of one entry is at most 1,000,000
count_small : (table : CrossTable) (k : ℕ) → IsCrossTable table
    → k < combinations (sizes table.levels)
    → counted (get_or table.entries k StructuralZero) < 10 ^ 64
count_small table k is within =
    let up : total_of (rows_to table (suc k)) ≤ 1000000 = total_small table (suc k) is within in
    omega (arith, up, rows_total table (suc k))

-- the record of a combination is added
one_added : (table : CrossTable) (number k : ℕ) → IsCrossTable table
    → k < combinations (sizes table.levels)
    → next_rows (columns_in table) number (rows_to table k) (record_of table k)
    ≡ Ok (rows_to table (suc k))
one_added table number k is within =
    let names = (row_in table k).levels in
    let entry = get_or table.entries k StructuralZero in
    let long : length names ≡ length table.factors = each_named table.levels k ∙ is.each_factor in
    let texts = named_texts table.levels (combination (sizes table.levels) k)
    (λ j. (is.apart j, is.texts j)) in
    let row = row_again table.factors names entry number long texts
    (count_small table k is within) in
    let new : is_some (entry_by_rows (rows_to table k) names) ≡ false =
    ap (λ (e : Option Entry). is_some e) (none_earlier table k k is within
    (let e : k ≤ k = omega arith in e)) in
    let next : rows_to table k ++ row_in table k ∷ [] ≡ rows_to table (suc k) =
    sym (rows_next table k) in
    let small : nat_le (total_of (rows_to table k ++ row_in table k ∷ [])) 1000000 ≡ true =
    ap (λ rows. nat_le (total_of rows) 1000000) next
    ∙ le-leb (total_of (rows_to table (suc k))) 1000000 (total_small table (suc k) is within) in
    rw (row, new, small) (ap (λ (rows : List Row). ok rows) next)
  where
    ok : List Row → Result (List Row) DataFault
    ok rows = Ok rows

-- the records from a combination on
records_added : (table : CrossTable) (left k number : ℕ) → IsCrossTable table
    → k + left ≡ combinations (sizes table.levels)
    → rows_of (columns_in table) number (rows_to table k)
    (map (record_of table) (range_with_len k left))
    ≡ Ok (rows_to table (combinations (sizes table.levels)))
unfolding rows_of
records_added table zero k number is all =
    let end : k ≡ combinations (sizes table.levels) = omega (arith, all) in
    ap (λ n. ok (rows_to table n)) end
  where
    ok : List Row → Result (List Row) DataFault
    ok rows = Ok rows
records_added table (suc left) k number is all =
    let within : k < combinations (sizes table.levels) = omega (arith, all) in
    let next : suc k ≡ k + 1 = omega arith in
    rw (one_added table number k is within)
    (ap (λ m. rows_of (columns_in table) (number + 1) (rows_to table m)
    (map (record_of table) (range_with_len (k + 1) left))) next
    ∙ records_added table left (k + 1) (number + 1) is (omega (arith, all)))

-- all records
pub rows_again : (table : CrossTable) → IsCrossTable table
    → rows_of (columns_in table) 2 []
    (map (record_of table) (range_with_len 0 (combinations (sizes table.levels))))
    ≡ Ok (rows_to table (combinations (sizes table.levels)))
rows_again table is = records_added table (combinations (sizes table.levels)) 0 2 is (omega arith)

-- the entries are found again
pub entries_again : (table : CrossTable) → IsCrossTable table
    → entries_of (rows_to table (combinations (sizes table.levels))) table.levels ≡ table.entries
entries_again table is =
    let all = combinations (sizes table.levels) in
    sym (fill_by_all
    (λ k. entry_in (rows_to table all) (named table.levels (combination (sizes table.levels) k)))
    table.entries all StructuralZero is.full
    (λ k within.
    sym (ap (λ (e : Option Entry). unwrap_or e (Count 0))
    (entry_found table all k is (let e : all ≤ all = omega arith in e) within))))
