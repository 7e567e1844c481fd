-- The cells among the first entries of a table.
use Rattle.std.proofs.Common.{Bool, List, Some, [], ap, append-nil, arith, cond, false, get_or, length, suc, sum, sym, take, zero, ℕ, ◌+◌, ◌++◌, ◌<◌, ◌==◌, ◌∙◌, ◌∷◌, ◌≡◌, ◌≢◌, ◌≤◌}
use Rattle.std.proofs.Math.Seq.{take-suc}
use Rattle.std.proofs.lemmas.List.Elements.{filter-append, filter_map-append}
use Rattle.std.proofs.lemmas.Option.{get_or_from_slice_get, slice_get-get_or}
use Rattle.std.specs.List.{filter, range_with_len}
use Rattle.mb_data.specs.CrossTable.{count_in, counted, counts}
use Rattle.mb_data.specs.loops.Totals.{IsFilled}
use Rattle.std.proofs.lemmas.List.{length-append}
use Rattle.std.proofs.lemmas.List.Sums.{sum_by-append}
use Rattle.mb_data.specs.declared.entry.Entry.{Entry}
use Rattle.mb_data.specs.declared.entry.Entry.TheVariants.{Count, StructuralZero}

-- one entry more of the first k
take_more : (entries : List Entry) (k : ℕ) (entry : Entry) → k < length entries
    → get_or entries k (Count 0) ≡ entry → take (k + 1) entries ≡ take k entries ++ entry ∷ []
take_more entries k entry within is =
    ap (λ n. take n entries) (let e : k + 1 ≡ suc k = omega arith in e)
    ∙ take-suc entries k (Count 0) within ∙ ap (λ (e : Entry). take k entries ++ e ∷ []) is

-- a count more
pub counts_more : (entries : List Entry) (k count : ℕ) → k < length entries
    → get_or entries k (Count 0) ≡ Count count
    → counts (take (k + 1) entries) ≡ counts (take k entries) ++ count ∷ []
counts_more entries k count within is =
    ap counts (take_more entries k (Count count) within is)
    ∙ filter_map-append count_in (take k entries) (Count count ∷ [])

-- no count more
pub counts_same : (entries : List Entry) (k : ℕ) → k < length entries
    → get_or entries k (Count 0) ≡ StructuralZero
    → counts (take (k + 1) entries) ≡ counts (take k entries)
counts_same entries k within is =
    ap counts (take_more entries k StructuralZero within is)
    ∙ filter_map-append count_in (take k entries) (StructuralZero ∷ [])
    ∙ append-nil (counts (take k entries))

-- an entry of the table, by any other
pub entry_there : (entries : List Entry) (k : ℕ) (entry : Entry) → k < length entries
    → get_or entries k (Count 0) ≡ entry → get_or entries k StructuralZero ≡ entry
entry_there entries k entry within is =
    get_or_from_slice_get entries k entry StructuralZero
    (slice_get-get_or entries k (Count 0) within ∙ ap (λ (e : Entry). Some e) is)

-- one number more
range_last : (a n j : ℕ) → a + n ≡ j → range_with_len a (suc n) ≡ range_with_len a n ++ j ∷ []
range_last a zero j e = let same : a ≡ j = omega (arith, e) in ap (λ k. k ∷ []) same
range_last a (suc n) j e = ap (λ l. a ∷ l) (range_last (a + 1) n j (omega (arith, e)))

-- one number more that passes a test or not
pub numbers_more : (test : ℕ → Bool) (k : ℕ)
    → filter test (range_with_len 0 (k + 1))
    ≡ filter test (range_with_len 0 k) ++ cond (test k) (k ∷ []) []
numbers_more test k =
    ap (λ n. filter test (range_with_len 0 n)) (let e : k + 1 ≡ suc k = omega arith in e)
    ∙ ap (filter test) (range_last 0 k k (omega arith))
    ∙ filter-append test (range_with_len 0 k) (k ∷ [])

-- the counts of entries with one more
pub counts_push : (entries : List Entry) (entry : Entry)
    → counts (entries ++ entry ∷ []) ≡ counts entries ++ counts (entry ∷ [])
counts_push entries entry = filter_map-append count_in entries (entry ∷ [])

-- how many counts there are with one more
pub cells_push : (entries : List Entry) (count : ℕ)
    → length (counts (entries ++ Count count ∷ [])) ≡ length (counts entries) + 1
cells_push entries count =
    ap (λ (list : List ℕ). length list) (counts_push entries (Count count))
    ∙ length-append (counts entries) (count ∷ [])

-- the sum of the counts with one more
pub sum_push : (entries : List Entry) (entry : Entry)
    → sum (counts (entries ++ entry ∷ [])) ≡ sum (counts entries) + counted entry
sum_push entries (Count count) =
    ap sum (counts_push entries (Count count))
    ∙ sum_by-append (λ x. x) (counts entries) (count ∷ [])
    ∙ let e : sum (counts entries) + (0 + count) ≡ sum (counts entries) + count = omega arith in e
sum_push entries StructuralZero =
    ap sum (counts_push entries StructuralZero ∙ append-nil (counts entries))
    ∙ let e : sum (counts entries) ≡ sum (counts entries) + 0 = omega arith in e

-- the numbers beside entries with one more that is no cell
pub zero_filled : (entries : List Entry) (cells total : ℕ) → IsFilled entries cells total
    → IsFilled (entries ++ StructuralZero ∷ []) cells total
zero_filled entries cells total is =
    let same = counts_push entries StructuralZero ∙ append-nil (counts entries) in
    record {
      cells_are = is.cells_are ∙ ap (λ (list : List ℕ). length list) (sym same);
      few = is.few;
      total_is = is.total_is ∙ ap sum (sym same);
      small = is.small;
    }

-- the numbers beside entries with one more cell
pub count_filled : (entries : List Entry) (cells total count : ℕ) → IsFilled entries cells total
    → (cells == 64) ≡ false → total + count ≤ 1000000
    → IsFilled (entries ++ Count count ∷ []) (cells + 1) (total + count)
count_filled entries cells total count is more within = record {
  cells_are = ap (λ n. n + 1) is.cells_are ∙ sym (cells_push entries count);
  few =
      let other : cells ≢ 64 = λ same. absurd (cc (sym more ∙ ap (λ n. n == 64) same)) in
      omega (arith, is.few, other);
  total_is = ap (λ n. n + count) is.total_is ∙ sym (sum_push entries (Count count));
  small = within;
}

-- one cell more than 64
pub past_cells : (entries : List Entry) (cells total count : ℕ) → IsFilled entries cells total
    → cells ≡ 64 → 64 < length (counts (entries ++ Count count ∷ []))
past_cells entries cells total count is full =
    omega (arith, full, is.cells_are, cells_push entries count)
