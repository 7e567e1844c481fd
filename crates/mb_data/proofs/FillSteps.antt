-- The entries of all combinations, one by one.
use Rattle.std.proofs.Common.{List, Option, [], ap, arith, drop, length, map, sum, sym, take, ℕ, ◌+◌, ◌++◌, ◌<◌, ◌∙◌, ◌∷◌, ◌≡◌, ◌≤◌}
use Rattle.std.proofs.lemmas.List.{length-append, take-append-drop}
use Rattle.std.proofs.lemmas.List.Elements.{filter_map-append}
use Rattle.std.proofs.lemmas.List.FromFn.{map-range_with_len_more, take-map-range_with_len}
use Rattle.std.specs.List.{range_with_len}
use Rattle.std.specs.Option.{unwrap_or}
use Rattle.mb_data.specs.CrossTable.{combination, combinations, count_in, counted, counts, named, sizes}
use Rattle.mb_data.specs.DatasetText.{Row, entries_of, entry_in}
use Rattle.mb_data.specs.declared.entry.Entry.{Entry}
use Rattle.mb_data.specs.declared.entry.Entry.TheVariants.{Count}
use Rattle.mb_data.specs.loops.Gathers.{Gathers}
use Rattle.mb_data.specs.loops.Keys.{key_of}
use Rattle.mb_data.proofs.RowSums.{one_fits}
use Rattle.mb_data.proofs.SoundLevels.{gathered_sound, named_texts}

-- the names of a combination
abbrev pub names_at : List (List (List ℕ)) → ℕ → List (List ℕ)
names_at levels number = named levels (combination (sizes levels) number)

-- the entries of the first combinations
abbrev pub first_entries : List Row → List (List (List ℕ)) → ℕ → List Entry
first_entries rows levels number =
    map (λ k. entry_in rows (named levels (combination (sizes levels) k))) (range_with_len 0 number)

-- the entry that a key finds is that of the combination
pub entry_is : (factors : ℕ) (rows : List Row) (levels : List (List (List ℕ)))
    (kept : List ℕ → Option Entry) (total number : ℕ) (key : List ℕ) (entry : Entry)
    → Gathers factors rows levels kept total → key ≡ key_of (names_at levels number)
    → entry ≡ unwrap_or (kept key) (Count 0) → entry ≡ entry_in rows (names_at levels number)
entry_is factors rows levels kept total number key entry gathers key_is is =
    let texts = named_texts levels (combination (sizes levels) number)
    (gathered_sound factors rows levels kept total gathers) in
    is ∙ ap (λ k. unwrap_or (kept k) (Count 0)) key_is
    ∙ ap (λ (found : Option Entry). unwrap_or found (Count 0))
    (gathers.entries (names_at levels number) texts)

-- its count has room in the total
pub entry_fits : (factors : ℕ) (rows : List Row) (levels : List (List (List ℕ)))
    (kept : List ℕ → Option Entry) (total number sum_so_far : ℕ) (entries : List Entry)
    (entry : Entry) → Gathers factors rows levels kept total → total ≤ 1000000
    → number < combinations (sizes levels) → entries ≡ first_entries rows levels number
    → sum_so_far ≡ sum (counts entries) → entry ≡ entry_in rows (names_at levels number)
    → sum_so_far + counted entry ≤ 1000000
entry_fits factors rows levels kept total number sum_so_far entries entry gathers small
    below are sum_is is =
    let fits = one_fits levels rows number sum_so_far entries
    (λ k. (gathered_sound factors rows levels kept total gathers k).0) below are sum_is in
    let same : counted entry ≡ counted (entry_in rows (names_at levels number)) = ap counted is in
    omega (arith, fits, same, small, gathers.total_is)

-- one entry more
pub one_more : (rows : List Row) (levels : List (List (List ℕ))) (number : ℕ)
    (entries : List Entry) (entry : Entry) → entries ≡ first_entries rows levels number
    → entry ≡ entry_in rows (names_at levels number)
    → entries ++ entry ∷ [] ≡ first_entries rows levels (number + 1)
one_more rows levels number entries entry are is =
    ap (λ list. list ++ entry ∷ []) are
    ∙ ap (λ (e : Entry). first_entries rows levels number ++ e ∷ []) is
    ∙ sym (map-range_with_len_more
    (λ k. entry_in rows (named levels (combination (sizes levels) k))) 0 number
    number (omega arith))

-- more than 64 cells among the first entries are more than 64 in all
pub too_many : (rows : List Row) (levels : List (List (List ℕ))) (number : ℕ)
    (entries : List Entry) → number ≤ combinations (sizes levels)
    → entries ≡ first_entries rows levels number → 64 < length (counts entries)
    → 64 < length (counts (entries_of rows levels))
too_many rows levels number entries within are many =
    let all = entries_of rows levels in
    let front : take number all ≡ entries =
    take-map-range_with_len
    (λ k. entry_in rows (named levels (combination (sizes levels) k))) 0
    (combinations (sizes levels)) number within ∙ sym are in
    let parts : counts all ≡ counts entries ++ counts (drop number all) =
    ap counts (sym (take-append-drop number all)) ∙ filter_map-append count_in
    (take number all) (drop number all)
    ∙ ap (λ (list : List Entry). counts list ++ counts (drop number all)) front in
    let long : length (counts all) ≡ length (counts entries) + length (counts (drop number all)) =
    ap (λ (list : List ℕ). length list) parts
    ∙ length-append (counts entries) (counts (drop number all)) in
    omega (arith, long, many)
