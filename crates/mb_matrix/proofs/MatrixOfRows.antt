-- A design matrix is the one of its rows.
use Rattle.std.proofs.Common.{All, Bool, true, None, Ok, [], ap, arith, false, get_or, length, map, pos, unsigned_abs, ℕ, ℤ, ◌<◌, ◌∙◌, ◌≡◌, ◌≤◌}
use Rattle.std.proofs.lemmas.Bool.Decides.{nat_tests}
use Rattle.std.proofs.lemmas.Grind.{get_or_default_zero}
use Rattle.std.proofs.lemmas.Int.{ints}
use Rattle.std.proofs.lemmas.List.{get_or-map, length-map}
use Rattle.std.proofs.lemmas.List.Elements.{All-from_recursion}
use Rattle.std.specs.List.{position}
use Rattle.mb_matrix.proofs.FirstFaults.{first_cell-None, is_size-true, no_wrong, position-None_from, zero_column-None}
use Rattle.mb_matrix.proofs.RowsAndColumns.{at-column_of, entry_small, get_or-columns, get_or-rows_in, length-column_of, length-columns, length-rows_in, row_entry}
use Rattle.mb_matrix.specs.Faults.{first_cell, is_large, is_negative, is_size, matrix_of}
use Rattle.mb_matrix.specs.Fiber.{IsColumn}
use Rattle.mb_matrix.specs.Limits.{largest_entry}
use Rattle.mb_matrix.specs.Matrix.{Design, IsDesign, column_at, column_of, design_of, is_design_entry, row_of, rows_in}
use Rattle.mb_tables.proofs.ListLaws.{same_at}
use Rattle.mb_tables.proofs.VectorLaws.{same_places}
use Rattle.mb_tables.specs.Rows.{Rows}
use Rattle.mb_tables.specs.Vectors.{all_zero, at}

-- no number is negative
not_negative : (n : ℕ) → is_negative (pos n) ≡ false
not_negative n = grind (arith, ints, nat_tests)

-- a number up to 1,000 isn't large
not_large : (n : ℕ) → n ≤ largest_entry → is_large (pos n) ≡ false
not_large n small = grind (arith, ints, nat_tests)

-- the array of the rows
abbrev pub rows_array : Design → Rows
rows_array matrix = record { width = length matrix.columns; rows = rows_in matrix }

-- a number up to 1,000 is an entry
pub small-is_entry : (n : ℕ) → n ≤ 1000 → is_design_entry (pos n) ≡ true
small-is_entry n small = grind (arith, ints, nat_tests)

module _ (matrix : Design) (sound : IsDesign matrix) where
  -- what is known of a column
  column : (j : ℕ) → j < length matrix.columns → IsColumn matrix.rows (column_at matrix j)
  column j l = All-from_recursion (IsColumn matrix.rows) matrix.columns sound.each j [] l

  -- a row has a number a cell
  pub row_long : (i : ℕ) → length (row_of matrix i) ≡ length matrix.columns
  row_long i = length-map matrix.columns (λ column. at column i)

  -- the numbers of a row are small
  pub row_small : (i : ℕ) → i < matrix.rows → All (λ n. n ≤ 1000) (row_of matrix i)
  row_small i l k d m =
      let wide : k < length matrix.columns = let e = row_long i in omega arith in
      let same = get_or_default_zero (row_of matrix i) k d m in
      let small = entry_small matrix i k sound l wide in
      omega arith

  -- an entry of the rows
  entry_is : (i j : ℕ) → i < matrix.rows → j < length matrix.columns →
      get_or (get_or (rows_in matrix) i []) j (pos 0) ≡ pos (at (row_of matrix i) j)
  entry_is i j l m =
      ap (λ row. get_or row j (pos 0)) (get_or-rows_in matrix i [] l)
      ∙ get_or-map pos (row_of matrix i) j 0 (pos 0) (let e = row_long i in omega arith)

  -- the column of a cell is that of the rows
  column_is : (j : ℕ) → j < length matrix.columns →
      column_of (rows_in matrix) j ≡ column_at matrix j
  column_is j l =
      let high = column j l in
      let tall = high.high in
      let many = length-rows_in matrix in
      let long = length-column_of (rows_in matrix) j in
      same_places (column_of (rows_in matrix) j) (column_at matrix j) (omega arith)
      (λ i m.
      at-column_of (rows_in matrix) j i (omega arith)
      ∙ ap unsigned_abs (entry_is i j (omega arith) l)
      ∙ row_entry matrix i j l)

  -- all columns are
  columns_are : (design_of (rows_array matrix)).columns ≡ matrix.columns
  columns_are =
      let many = length-columns (rows_array matrix) in
      same_at [] (design_of (rows_array matrix)).columns matrix.columns many
      (λ j l. get_or-columns (rows_array matrix) j [] (omega arith)
      ∙ column_is j (omega arith))

  -- so the design matrix is that of its rows
  design_is : design_of (rows_array matrix) ≡ matrix
  unfolding design_of
  design_is =
      ap (λ rows. record {
        rows = rows;
        columns = (design_of (rows_array matrix)).columns;
      }) (length-rows_in matrix)
      ∙ ap (λ columns. record { rows = matrix.rows; columns = columns }) columns_are

  -- no entry of a row fails a test that its numbers pass
  none_fails : (test : ℤ → Bool) →
      ((i j : ℕ) → i < matrix.rows → j < length matrix.columns →
      test (pos (at (row_of matrix i) j)) ≡ false) →
      first_cell test 0 (rows_in matrix) ≡ None
  none_fails test passes =
      first_cell-None test 0 (rows_in matrix)
      (λ i l.
      let m : i < matrix.rows = let e = length-rows_in matrix in omega arith in
      ap (position test) (get_or-rows_in matrix i [] m)
      ∙ position-None_from test (map pos (row_of matrix i)) (pos 0)
      (λ j k.
      let wide : j < length (row_of matrix i) =
      let e = length-map (row_of matrix i) pos in omega arith in
      ap test (get_or-map pos (row_of matrix i) j 0 (pos 0) wide)
      ∙ passes i j m (let e = row_long i in omega arith)))

  -- and the array of its rows is accepted as this matrix
  pub is_of_rows : matrix_of (rows_array matrix) ≡ Ok matrix
  is_of_rows =
      no_wrong (rows_array matrix)
      (is_size-true (length matrix.columns) sound.some_cells sound.few_cells)
      (ap is_size (length-rows_in matrix)
      ∙ is_size-true matrix.rows sound.some_rows sound.few_rows)
      (none_fails is_negative (λ i j l m. not_negative (at (row_of matrix i) j)))
      (none_fails is_large (λ i j l m. not_large _ (entry_small matrix i j sound l m)))
      (zero_column-None (rows_array matrix)
      (λ j l. ap all_zero (column_is j l) ∙ (column j l).not_zero))
      ∙ ap Ok design_is
