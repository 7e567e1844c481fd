-- Rows end to end, generator by generator.
use Rattle.std.proofs.Common.{All, List, [], ap, arith, get_or, length, map, sym, take, ℕ, ℤ, ◌+◌, ◌++◌, ◌<◌, ◌∙◌, ◌∷◌, ◌≡◌, ◌≤◌}
use Rattle.std.proofs.lemmas.List.{flat_map_more, take_more}
use Rattle.std.proofs.lemmas.List.Concat.{flat_map-append}
use Rattle.std.proofs.lemmas.List.FromFn.{length-map-range_with_len, map-range_with_len_more}
use Rattle.std.proofs.lemmas.List.Folds.{length-flat_map-take}
use Rattle.std.proofs.lemmas.Option.{slice_get-get_or}
use Rattle.std.specs.List.{flat_map, range_with_len}
use Rattle.mb_data.specs.CrossTable.{CrossTable, cell_numbers, combination, combinations, sizes}
use Rattle.mb_data.specs.Dataset.{IsCrossTable}
use Rattle.mb_kinds.specs.Generators.{level_row, margin_rows, margin_size, sizes_of}
use Rattle.mb_kinds.specs.loops.Placed.{end_to_end}
use Rattle.mb_tables.proofs.ListLaws.{In-filter_only, place-in, range-only}

-- one row more of rows by their numbers
pub row_more : (f : ℕ → List ℤ) (front : List ℤ) (n : ℕ) (list row : List ℤ)
    → list ≡ front ++ end_to_end (map f (range_with_len 0 n)) → row ≡ f n
    → list ++ row ≡ front ++ end_to_end (map f (range_with_len 0 (n + 1)))
row_more f front n list row before is =
    ap (λ l. l ++ row) before
    ∙ ap (λ r. (front ++ end_to_end (map f (range_with_len 0 n))) ++ r) is
    ∙ flat_map_more (λ (r : List ℤ). r) front (map f (range_with_len 0 n)) (f n)
    ∙ ap (λ rows. front ++ end_to_end rows) (sym (map-range_with_len_more f 0 n n (omega arith)))

-- the rows of one generator more
pub rows_more : (f : List ℕ → List (List ℤ)) (generators : List (List ℕ)) (i : ℕ) (g : List ℕ)
    → i < length generators → get_or generators i g ≡ g
    → flat_map f (take (i + 1) generators) ≡ flat_map f (take i generators) ++ f g
rows_more f generators i g within at =
    ap (flat_map f) (take_more generators i g within
    ∙ ap (λ (h : List ℕ). take i generators ++ h ∷ []) at)
    ∙ sym (flat_map_more f [] (take i generators) g)

-- so many are left at least
pub rows_left : (f : List ℕ → List (List ℤ)) (generators : List (List ℕ)) (i : ℕ) (g : List ℕ)
    → i < length generators → get_or generators i g ≡ g
    → length (flat_map f (take i generators)) + length (f g) ≤ length (flat_map f generators)
rows_left f generators i g within at =
    let e = ap (λ h. length (f h)) at in
    let l = length-flat_map-take f generators i g within in
    omega (arith, e, l)

-- a generator has a row for each combination
pub length-margin_rows : (table : CrossTable) (generator : List ℕ)
    → length (margin_rows table generator) ≡ margin_size table generator
length-margin_rows table generator =
    length-map-range_with_len (λ k. level_row table generator
    (combination (sizes_of table.levels generator) k))
    0 (margin_size table generator)

-- end to end, one after the other
pub end_to_end-append : (a b : List (List ℤ)) → end_to_end (a ++ b) ≡ end_to_end a ++ end_to_end b
end_to_end-append a b = flat_map-append (λ (r : List ℤ). r) a b

-- the numbers of cells are numbers of combinations
pub cells_within : (table : CrossTable) → IsCrossTable table
    → All (λ cell. cell < combinations (sizes table.levels)) (cell_numbers table.entries)
cells_within table is k d within =
    let cell = get_or (cell_numbers table.entries) k d in
    let there = place-in (cell_numbers table.entries) k cell
    (slice_get-get_or (cell_numbers table.entries) k d within) in
    let kept = In-filter_only _ cell (range_with_len 0 (length table.entries)) there in
    let bounds = range-only 0 (length table.entries) cell kept in
    let upper = bounds.1 in
    let full = is.full in
    omega (arith, upper, full)
