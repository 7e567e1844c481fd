-- Steps one after another: a refusal stays, and an answer goes on.
use Rattle.std.proofs.Common.{All, Bool, Err, List, None, Ok, Option, Result, Some, [], ap, arith, cond, false, get_or, inr, length, map, refl, subst, suc, sym, take, true, zero, ℕ, ℤ, ◌*◌, ◌+◌, ◌<◌, ◌==◌, ◌∙◌, ◌∷◌, ◌≡◌, ◌≤◌}
use Rattle.std.proofs.lemmas.Bool.{eqb-true}
use Rattle.std.proofs.lemmas.List.{get_or-map, length-append, length-map}
use Rattle.std.proofs.lemmas.List.FromFn.{length-map-range_with_len}
use Rattle.std.proofs.lemmas.List.{take_all}
use Rattle.std.proofs.lemmas.List.Elements.{All-append, All-nil}
use Rattle.std.specs.List.{filter, flat_map, range_with_len, slice_index_or}
use Rattle.std.specs.Option.{is_some}
use Rattle.mb_data.proofs.CellLists.{counts_more, counts_same, entry_there, numbers_more}
use Rattle.mb_data.specs.CrossTable.{CrossTable, cell_numbers, combination, count_in, counts}
use Rattle.mb_data.specs.Dataset.{IsCrossTable}
use Rattle.mb_data.specs.declared.entry.Entry.{Entry}
use Rattle.mb_data.specs.declared.entry.Entry.TheVariants.{Count, StructuralZero}
use Rattle.mb_kinds.specs.Generators.{base_for, cell_count, first_margin, level_row, margin_array, margin_rows, margin_size, margins_model, model_on, of_matrix, of_measure, sizes_of}
use Rattle.mb_kinds.specs.Model.{ModelValue}
use Rattle.mb_kinds.specs.declared.kind_fault.KindFault.{KindFault}
use Rattle.mb_kinds.specs.declared.kind_fault.KindFault.TheVariants.{CellCount, Matrix}
use Rattle.mb_kinds.specs.loops.Placed.{end_to_end}
use Rattle.mb_kinds.proofs.RowSteps.{length-margin_rows}
use Rattle.mb_matrix.proofs.FirstFaults.{is_size-false, is_size-true, wrong_rows}
use Rattle.mb_matrix.specs.Faults.{matrix_of}
use Rattle.mb_matrix.specs.Matrix.{Design}
use Rattle.mb_matrix.specs.Measure.{Scheme, measure_of}
use Rattle.mb_matrix.specs.declared.fault.MatrixFault.{MatrixFault}
use Rattle.mb_matrix.specs.declared.fault.MatrixFault.TheVariants.{TooManyMargins}
use Rattle.mb_moves.proofs.RowsEndToEnd.{all_rows, array_of-end_to_end}
use Rattle.mb_tables.specs.Answers.{◌>>=◌}
use Rattle.mb_tables.specs.Rows.{Rows, array_of}

-- a step that answers goes on
pub goes_on : {X Y F : Type 0} (first : Result X F) (x : X) (next : X → Result Y F)
    → first ≡ Ok x → (first >>= next) ≡ next x
goes_on first x next e = ap (λ r. r >>= next) e

-- rows that are no design matrix
refused_matrix : (array : Rows) (scale : Scheme) (base : List ℕ) (fault : MatrixFault)
    → matrix_of array ≡ Err fault → model_on array scale base ≡ Err (Matrix fault)
refused_matrix array scale base fault e =
    let next : Design → Result ModelValue KindFault =
    λ matrix. of_measure (measure_of matrix scale base)
    >>= (λ measure. Ok (record { matrix = matrix; measure = measure })) in
    ap (λ r. of_matrix r >>= next) e

-- as many cells as counts, among the first entries
cells_before : (entries : List Entry) (n : ℕ) → n ≤ length entries
    → length (filter (λ k. is_some (count_in (slice_index_or entries k StructuralZero)))
    (range_with_len 0 n))
    ≡ length (counts (take n entries))
cells_before entries zero within = refl
cells_before entries (suc n) within =
    by (cells_before entries n (omega (arith, within))) (get_or entries n (Count 0)) refl
  where
    test : ℕ → Bool
    test k = is_some (count_in (slice_index_or entries k StructuralZero))

    on : suc n ≡ n + 1
    on = omega arith

    inside : n < length entries
    inside = omega (arith, within)

    by : length (filter test (range_with_len 0 n)) ≡ length (counts (take n entries))
        → (entry : Entry) → entry ≡ get_or entries n (Count 0)
        → length (filter test (range_with_len 0 (suc n))) ≡ length (counts (take (suc n) entries))
    by ih (Count c) e =
        let passes : test n ≡ true = ap (λ (x : Entry). is_some (count_in x))
        (entry_there entries n (Count c) inside (sym e)) in
        let left = ap (λ m. length (filter test (range_with_len 0 m))) on
        ∙ ap length (numbers_more test n)
        ∙ length-append (filter test (range_with_len 0 n)) _
        ∙ ap (λ b. length (filter test (range_with_len 0 n))
        + length (cond b (n ∷ []) [])) passes in
        let right = ap (λ m. length (counts (take m entries))) on
        ∙ ap length (counts_more entries n c inside (sym e))
        ∙ length-append (counts (take n entries)) (c ∷ []) in
        omega (arith, left, right, ih)
    by ih StructuralZero e =
        let fails : test n ≡ false = ap (λ (x : Entry). is_some (count_in x))
        (entry_there entries n StructuralZero inside (sym e)) in
        let left = ap (λ m. length (filter test (range_with_len 0 m))) on
        ∙ ap length (numbers_more test n)
        ∙ length-append (filter test (range_with_len 0 n)) _
        ∙ ap (λ b. length (filter test (range_with_len 0 n)) + length (cond b (n ∷ []) [])) fails in
        let right = ap (λ m. length (counts (take m entries))) on
        ∙ ap length (counts_same entries n inside (sym e)) in
        omega (arith, left, right, ih)

-- as many cells as counts
pub cells_counted : (entries : List Entry) → length (cell_numbers entries) ≡ length (counts entries)
cells_counted entries =
    cells_before entries (length entries) (omega arith)
    ∙ ap (λ list. length (counts list)) (take_all (length entries) entries (omega arith))

-- a property of each value of a map
pub each_map : {X Y : Type 0} (P : Y → Type 0) (f : X → Y) (xs : List X) (x : X)
    → ((x : X) → P (f x))
    → All P (map f xs)
each_map P f xs x h k d within =
    subst P (sym (get_or-map f xs k x d (let e = length-map xs f in omega (arith, e, within))))
    (h (get_or xs k x))

-- each row of a generator is as wide as there are cells
row_wide : (table : CrossTable) (generator places : List ℕ)
    → length (level_row table generator places) ≡ cell_count table
row_wide table generator places =
    length-map (cell_numbers table.entries) _ ∙ cells_counted table.entries

-- so is each row of all generators
pub rows_wide : (table : CrossTable) (generators : List (List ℕ))
    → All (λ row. length row ≡ cell_count table) (flat_map (margin_rows table) generators)
rows_wide table [] = All-nil (λ (row : List ℤ). length row ≡ cell_count table)
rows_wide table (generator ∷ generators) =
    All-append (λ (row : List ℤ). length row ≡ cell_count table) (margin_rows table generator)
    (flat_map (margin_rows table) generators)
    (each_map (λ (row : List ℤ). length row ≡ cell_count table)
    (λ k. level_row table generator (combination (sizes_of table.levels generator) k))
    (range_with_len 0 (margin_size table generator)) 0
    (λ k. row_wide table generator (combination (sizes_of table.levels generator) k)))
    (rows_wide table generators)

-- base numbers are one a cell
pub base_length : (cells : ℕ) (given : Option (List ℕ)) (base : List ℕ)
    → base_for cells given ≡ Ok base
    → length base ≡ cells
base_length cells None base e =
    let same : base ≡ map (λ k. 1) (range_with_len 0 cells) = cc in
    ap length same ∙ length-map-range_with_len (λ k. 1) 0 cells
base_length cells (Some list) base e = by (length list == cells) refl e
  where
    by : (b : Bool) → b ≡ (length list == cells)
        → cond b (Ok list) (Err (CellCount (length list) cells)) ≡ Ok base → length base ≡ cells
    by true is e =
        let same : list ≡ base = cc in
        ap length (sym same) ∙ eqb-true (length list) cells (sym is)
    by false is e = cc

module _ (table : CrossTable) (is : IsCrossTable table) (generators : List (List ℕ))
    (given : Option (List ℕ)) where
  -- the rows
  abbrev pub rows : List (List ℤ)
  rows = flat_map (margin_rows table) generators

  module _ (base : List ℕ) (has : base_for (cell_count table) given ≡ Ok base) where
    -- too many rows
    pub too_many : 64 < length rows → margins_model table generators given
        ≡ Err (Matrix TooManyMargins)
    too_many many =
        let wide = is_size-true (cell_count table) is.some_cells is.few_cells in
        let wrong = wrong_rows (margin_array table generators) wide
        (is_size-false (length rows) (inr many)) in
        goes_on (base_for (cell_count table) given) base
        (λ b. model_on (margin_array table generators) (first_margin table generators) b) has
        ∙ refused_matrix (margin_array table generators) (first_margin table generators) base
        TooManyMargins wrong

    -- so where the first generator has too many
    pub too_many_first : 1 ≤ length generators → 64 < margin_size table (get_or generators 0 [])
        → margins_model table generators given ≡ Err (Matrix TooManyMargins)
    too_many_first some many =
        let g = get_or generators 0 [] in
        too_many (let left = first generators some in let e = length-margin_rows table g in
        omega (arith, left, e, many))
      where
        first : (list : List (List ℕ)) → 1 ≤ length list
            → length (margin_rows table (get_or list 0 []))
            ≤ length (flat_map (margin_rows table) list)
        first [] some = absurd (omega (arith, some))
        first (g ∷ list) some =
            let e = length-append (margin_rows table g)
            (flat_map (margin_rows table) list) in omega (arith, e)

    -- the rows end to end
    pub made : (count cells : ℕ) (entries : List ℤ) (scale : Scheme) → cells ≡ cell_count table
        → count ≡ length rows → entries ≡ end_to_end rows → scale ≡ first_margin table generators
        → model_on (array_of cells count entries) scale base ≡ margins_model table generators given
    made count cells entries scale e f g h =
        let array = ap (λ n. array_of n count entries) e
        ∙ ap (λ n. array_of (cell_count table) n entries) f
        ∙ ap (array_of (cell_count table) (length rows)) g
        ∙ array_of-end_to_end (margin_array table generators) (length rows)
        (cell_count table) refl refl
        (rows_wide table generators) in
        ap (λ a. model_on a scale base) array
        ∙ ap (λ s. model_on (margin_array table generators) s base) h
        ∙ sym (goes_on (base_for (cell_count table) given) base
        (λ b. model_on (margin_array table generators) (first_margin table generators) b) has)

-- entries of all rows are one a cell and row
pub entries_full : (table : CrossTable) (generators : List (List ℕ)) (count cells : ℕ)
    → count ≡ length (flat_map (margin_rows table) generators) → cells ≡ cell_count table
    → length (end_to_end (flat_map (margin_rows table) generators)) ≡ count * cells
entries_full table generators count cells e f =
    all_rows (length (flat_map (margin_rows table) generators)) (cell_count table)
    (flat_map (margin_rows table) generators) refl (rows_wide table generators)
    ∙ ap (λ n. n * cell_count table) (sym e) ∙ ap (λ n. count * n) (sym f)

-- the first of a list, by any other
pub first_at : (list : List (List ℕ)) (g : List ℕ) → 1 ≤ length list → get_or list 0 g ≡ g
    → get_or list 0 [] ≡ g
first_at [] g some e = absurd (omega (arith, some))
first_at (h ∷ list) g some e = e
