-- The counts of the combinations add up to no more than those of the rows.
use Rattle.std.proofs.Common.{Bool, List, Some, [], ap, arith, cond, get_or, inl, inr, length, map, refl, suc, sum, sym, true, zero, ℕ, ◌%◌, ◌*◌, ◌+◌, ◌/◌, ◌<◌, ◌∙◌, ◌∷◌, ◌≡◌, ◌≤◌}
use Rattle.std.proofs.Math.Nat.{div-add-mod, div-lt_iff_lt-mul, mod-lt}
use Rattle.std.proofs.lemmas.Bool.{cases_Bool}
use Rattle.std.proofs.lemmas.List.FromFn.{map-range_with_len_more}
use Rattle.std.proofs.lemmas.List.Sums.{sum_by-append}
use Rattle.std.proofs.lemmas.Option.{slice_get-get_or}
use Rattle.std.proofs.lemmas.Slice.Eq.{bytes_eq-Decides}
use Rattle.std.specs.Cmp.Lexicographic.{pointwise_decides}
use Rattle.std.specs.List.{range_with_len}
use Rattle.mb_data.specs.CrossTable.{combination, combinations, counted, counts, named, sizes}
use Rattle.mb_data.specs.DatasetText.{Row, entry_in, same_levels, total_of}
use Rattle.mb_data.specs.Levels.{AreApart}
use Rattle.mb_data.specs.declared.entry.Entry.{Entry}
use Rattle.mb_data.proofs.CellLists.{sum_push}
use Rattle.mb_data.proofs.LevelDigits.{rest_there}

-- the sum of the first values
abbrev pub sum_to : (ℕ → ℕ) → ℕ → ℕ
sum_to f zero = 0
sum_to f (suc n) = sum_to f n + f n

-- a sum of values that are at most those of two others
sum_most : (f g h : ℕ → ℕ) (n : ℕ) → ((k : ℕ) → k < n → f k ≤ g k + h k)
    → sum_to f n ≤ sum_to g n + sum_to h n
sum_most f g h zero most = omega arith
sum_most f g h (suc n) most =
    let last : f n ≤ g n + h n = most n (omega arith) in
    let front = sum_most f g h n (λ k below. most k (omega (arith, below))) in
    omega (arith, last, front)

-- a sum of nothing
sum_none : (f : ℕ → ℕ) (n : ℕ) → ((k : ℕ) → k < n → f k ≡ 0) → sum_to f n ≡ 0
sum_none f zero none = refl
sum_none f (suc n) none =
    let last : f n ≡ 0 = none n (omega arith) in
    let front = sum_none f n (λ k below. none k (omega (arith, below))) in
    omega (arith, last, front)

-- a value that is met at most once
sum_once : (test : ℕ → Bool) (value n : ℕ)
    → ((i j : ℕ) → i < n → j < n → test i ≡ true → test j ≡ true → i ≡ j)
    → sum_to (λ k. cond (test k) value 0) n ≤ value
sum_once test value zero once = omega arith
sum_once test value (suc n) once = elim (cases_Bool (test n)) [
  | inl here ↦
      let none = sum_none (λ k. cond (test k) value 0) n (λ k below. elim (cases_Bool (test k)) [
        | inl there ↦
            let same : k ≡ n = once k n (omega (arith, below)) (omega arith) there here in
            absurd (omega (arith, same, below))
        | inr other ↦ rw other refl
      ]) in
      let last : cond (test n) value 0 ≡ value = rw here refl in
      omega (arith, none, last)
  | inr other ↦
      let front = sum_once test value n (λ i j below_i below_j.
      once i j (omega (arith, below_i)) (omega (arith, below_j))) in
      let last : cond (test n) value 0 ≡ 0 = rw other refl in
      omega (arith, front, last)
]

-- what the rows with one more give to some names
first_counted : (row : Row) (rows : List Row) (names : List (List ℕ))
    → counted (entry_in (row ∷ rows) names)
    ≤ cond (same_levels row.levels names) (counted row.entry) 0 + counted (entry_in rows names)
first_counted row rows names = elim (cases_Bool (same_levels row.levels names)) [
  | inl same ↦ rw same (let e : counted row.entry ≤ counted row.entry
      + counted (entry_in rows names) = omega arith in e)
  | inr other ↦ rw other (let e : counted (entry_in rows names)
      ≤ 0 + counted (entry_in rows names) = omega arith in e)
]

-- names that differ get no more than the rows have
rows_counted : (rows : List Row) (names : ℕ → List (List ℕ)) (n : ℕ)
    → ((i j : ℕ) → i < n → j < n → names i ≡ names j → i ≡ j)
    → sum_to (λ k. counted (entry_in rows (names k))) n ≤ total_of rows
rows_counted [] names n differ =
    omega (arith, sum_none (λ k. counted (entry_in [] (names k))) n (λ k below. refl))
rows_counted (row ∷ rows) names n differ =
    let value = counted row.entry in
    let test : ℕ → Bool = λ k. same_levels row.levels (names k) in
    let most = sum_most (λ k. counted (entry_in (row ∷ rows) (names k)))
    (λ k. cond (test k) value 0) (λ k. counted (entry_in rows (names k))) n
    (λ k below. first_counted row rows (names k)) in
    let one = sum_once test value n (λ i j below_i below_j is_i is_j.
    differ i j below_i below_j
    (sym ((pointwise_decides bytes_eq-Decides row.levels (names i)).0 is_i)
    ∙ (pointwise_decides bytes_eq-Decides row.levels (names j)).0 is_j)) in
    let others = rows_counted rows names n differ in
    let whole : total_of (row ∷ rows) ≡ value + total_of rows =
    sum_by-append (λ (row : Row). counted row.entry) (row ∷ []) rows
    ∙ let e : 0 + value + total_of rows ≡ value + total_of rows = omega arith in e in
    omega (arith, most, one, others, whole)

-- a name and its place, where no name stands at two
one_place : (names : List (List ℕ)) (i j : ℕ) → AreApart names → i < length names
    → j < length names → get_or names i [] ≡ get_or names j [] → i ≡ j
one_place names i j apart within_i within_j same =
    apart i j (get_or names j [])
    (slice_get-get_or names i [] within_i ∙ ap (λ (n : List ℕ). Some n) same)
    (slice_get-get_or names j [] within_j)

-- different combinations have different names
pub names_differ : (levels : List (List (List ℕ))) (i j : ℕ)
    → ((k : ℕ) → AreApart (get_or levels k []))
    → i < combinations (sizes levels) → j < combinations (sizes levels)
    → named levels (combination (sizes levels) i) ≡ named levels (combination (sizes levels) j)
    → i ≡ j
unfolding combinations combination named
names_differ [] i j apart below_i below_j same = omega (arith, below_i, below_j)
names_differ (names ∷ levels) i j apart below_i below_j same =
    let after = combinations (sizes levels) in
    let some : 0 < after = rest_there (length names) after i below_i in
    let first : i / after ≡ j / after =
    one_place names (i / after) (j / after) (apart 0) ((div-lt_iff_lt-mul some).1 below_i)
    ((div-lt_iff_lt-mul some).1 below_j) (cc same) in
    let rest : i % after ≡ j % after =
    names_differ levels (i % after) (j % after) (λ k. apart (suc k)) (mod-lt i some)
    (mod-lt j some) (cc same) in
    sym (div-add-mod i after)
    ∙ ap (λ n. after * n + i % after) first
    ∙ ap (λ n. after * (j / after) + n) rest
    ∙ div-add-mod j after

-- the sum of the counts of the first combinations
pub first_sum : (f : ℕ → Entry) (n : ℕ)
    → sum (counts (map f (range_with_len 0 n))) ≡ sum_to (λ k. counted (f k)) n
first_sum f zero = refl
first_sum f (suc n) =
    ap (λ m. sum (counts (map f (range_with_len 0 m)))) (let e : suc n ≡ n + 1 = omega arith in e)
    ∙ ap (λ list. sum (counts list)) (map-range_with_len_more f 0 n n (omega arith))
    ∙ sum_push (map f (range_with_len 0 n)) (f n)
    ∙ ap (λ m. m + counted (f n)) (first_sum f n)

-- one combination more stays within the total of the rows
pub one_fits : (levels : List (List (List ℕ))) (rows : List Row) (n total : ℕ)
    (entries : List Entry) → ((k : ℕ) → AreApart (get_or levels k []))
    → n < combinations (sizes levels)
    → entries
    ≡ map (λ k. entry_in rows (named levels (combination (sizes levels) k))) (range_with_len 0 n)
    → total ≡ sum (counts entries)
    → total + counted (entry_in rows (named levels (combination (sizes levels) n)))
    ≤ total_of rows
one_fits levels rows n total entries apart below are is =
    let names : ℕ → List (List ℕ) = λ k. named levels (combination (sizes levels) k) in
    let so_far : total ≡ sum_to (λ k. counted (entry_in rows (names k))) n =
    is ∙ ap (λ list. sum (counts list)) are ∙ first_sum (λ k. entry_in rows (names k)) n in
    let whole = rows_counted rows names (suc n) (λ i j below_i below_j.
    names_differ levels i j apart (omega (arith, below, below_i))
    (omega (arith, below, below_j))) in
    omega (arith, so_far, whole)
