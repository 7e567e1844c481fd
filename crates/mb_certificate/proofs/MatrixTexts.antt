-- The lines of a matrix, both ways.
use Rattle.std.proofs.Common.{All, Bool, Err, List, Ok, Result, [], ap, append_assoc, arith, cond, false, get_or, length, map, pos, refl, subst, sym, true, ℕ, ℤ, ◌++◌, ◌+◌, ◌-◌, ◌<◌, ◌∙◌, ◌∷◌, ◌≡◌, ◌≤◌, codes}
use Rattle.std.proofs.lemmas.Int.{ints}
use Rattle.std.proofs.lemmas.List.{length-map}
use Rattle.std.proofs.lemmas.List.Elements.{All-from_recursion, All-map}
use Rattle.std.proofs.lemmas.List.Sums.{list_all-from_AllPass}
use Rattle.std.specs.Fmt.{decimal, signed_decimal}
use Rattle.std.specs.List.{AllByRecursion, flat_map, list_all}
use Rattle.mb_certificate.proofs.ItemLaws.{items_at}
use Rattle.mb_text.proofs.RecordSteps.{accepted_at, step_on, stepped}
use Rattle.mb_certificate.proofs.LineLaws.{Reads, line_is, line_written, lines_are, lines_at, lines_written, text_left}
use Rattle.mb_certificate.proofs.LineReaders.{AreSizes, IsMoveLine, in_turn, move_reads, sizes_reads}
use Rattle.mb_matrix.proofs.MatrixOfRows.{is_of_rows, row_long, row_small, rows_array, small-is_entry}
use Rattle.mb_certificate.specs.CertificateText.{all_of, entry, matrix_in, row_in, sizes_in}
use Rattle.mb_text.specs.Faults.{or_line}
use Rattle.mb_certificate.specs.Reading.{LinesLeft, says, times}
use Rattle.mb_certificate.specs.Written.{matrix_text}
use Rattle.mb_moves.specs.Written.{row_lines}
use Rattle.mb_matrix.proofs.NoFault.{matrix_accepted}
use Rattle.mb_matrix.proofs.RowsAndColumns.{get_or-rows_in, length-rows_in}
use Rattle.mb_matrix.specs.Faults.{matrix_of}
use Rattle.mb_matrix.specs.Matrix.{Design, IsDesign, is_design_entry, row_of, rows_in}
use Rattle.mb_tables.specs.Answers.{◌>>=◌}
use Rattle.mb_tables.specs.Entries.{IsEntry}
use Rattle.mb_tables.specs.Rows.{Rows}
use Rattle.mb_text.specs.Lines.{line}
use Rattle.mb_moves.proofs.RowLines.{lines_of_rows}

-- a row of so many cells, each 0 to 1,000
pub record IsRowLine (cells : ℕ) (row : List ℤ) : Type 0 where
  pub move : IsMoveLine cells row
  pub small : list_all is_design_entry row ≡ true

-- after the entries of a row
abbrev after_row : ℕ → List ℤ → Result (List ℤ) ℕ
after_row number row = cond (list_all is_design_entry row) (Ok row) (Err number)

-- a row that is let through is small
let_row : (number : ℕ) (t : Bool) (row found : List ℤ) →
    cond {A = Result (List ℤ) ℕ} t (Ok row) (Err number) ≡ Ok found → (t ≡ true) × (row ≡ found)
let_row number true row found e = (refl, cc)
let_row number false row found e = absurd cc

-- the line of a row
pub row_reads : (cells : ℕ) → 1 ≤ cells →
    Reads (row_in cells) (λ row. map signed_decimal row) (IsRowLine cells)
row_reads cells some = record {
  written =
      λ number row is.
      step_on (all_of entry cells (items_at number (map signed_decimal row))) row
      (after_row number) _ ((move_reads cells some).written number row is.move)
      (ap (λ t. cond t (Ok row) (Err number)) is.small);
  is_written =
      λ items row e.
      let a = stepped (all_of entry cells items) (after_row items.number) row e in
      let found = (move_reads cells some).is_written items a.0 a.1 in
      let passed = let_row items.number (list_all is_design_entry a.0) a.0 row a.2 in
      let known : IsRowLine cells a.0 = record { move = found.1; small = passed.0 } in
      (found.0 ∙ ap (map signed_decimal) passed.1, subst (IsRowLine cells) passed.1 known);
  some = λ row is. (move_reads cells some).some row is.move;
  tokens = λ row is. (move_reads cells some).tokens row is.move;
}

-- after the matrix
abbrev with_matrix : LinesLeft → Design → Result (Design × LinesLeft) ℕ
with_matrix left matrix = Ok (matrix, left)

-- after the rows
abbrev with_rows : ℕ → List (List ℤ) × LinesLeft → Result (Design × LinesLeft) ℕ
with_rows cells rows =
    or_line (rows.1.number - 1) (matrix_of (record { width = cells; rows = rows.0 }))
    >>= λ matrix. with_matrix rows.1 matrix

-- after the sizes
abbrev with_sizes : (ℕ × ℕ) × LinesLeft → Result (Design × LinesLeft) ℕ
with_sizes sizes =
    times (says (row_in sizes.0.1)) sizes.0.0 sizes.1 >>= λ rows. with_rows sizes.0.1 rows

-- a number up to 1,000 is an entry of a move
small_is_entry : (n : ℕ) → n ≤ 1000 → IsEntry (pos n)
small_is_entry n small = (grind (arith, ints, small), grind (arith, ints, small))

module _ (matrix : Design) (sound : IsDesign matrix) where
  -- each row is one
  row_is : (i : ℕ) → i < matrix.rows →
      IsRowLine (length matrix.columns) (map pos (row_of matrix i))
  row_is i l = record {
    move = record {
      long = length-map (row_of matrix i) pos ∙ row_long matrix sound i;
      entries =
          All-map IsEntry pos (row_of matrix i)
          (λ k d m. small_is_entry (get_or (row_of matrix i) k d)
          (row_small matrix sound i l k d m));
    };
    small =
        list_all-from_AllPass is_design_entry (map pos (row_of matrix i))
        (All-map (λ z. is_design_entry z ≡ true) pos (row_of matrix i)
        (λ k d m. small-is_entry (get_or (row_of matrix i) k d)
        (row_small matrix sound i l k d m)));
  }

  -- so are all
  rows_are : All (IsRowLine (length matrix.columns)) (rows_in matrix)
  rows_are k d l =
      let m : k < matrix.rows = let e = length-rows_in matrix in omega arith in
      subst (IsRowLine (length matrix.columns)) (sym (get_or-rows_in matrix k d m)) (row_is k m)

  -- the lines of a matrix are read as it
  pub matrix_written : (number : ℕ) (rest : List ℕ) →
      (m : ℕ) × (matrix_in (lines_at number (matrix_text matrix ++ rest))
      ≡ Ok (matrix, lines_at m rest))
  unfolding matrix_in
  matrix_written number rest =
      let cells = length matrix.columns in
      let sizes : ℕ × ℕ = (matrix.rows, cells) in
      let rows = rows_in matrix in
      let text = flat_map line (map (map signed_decimal) rows) ++ rest in
      let body : text ≡ flat_map line (row_lines matrix) ++ rest =
      ap (λ list. flat_map line list ++ rest) (lines_of_rows matrix) in
      let head = line (codes "matrix" ∷ decimal matrix.rows ∷ decimal cells ∷ []) in
      let more =
      lines_written (row_in cells) (λ row. map signed_decimal row) (IsRowLine cells)
      (row_reads cells sound.some_cells) (number + 1) rows rest
      (in_turn (IsRowLine cells) rows rows_are) in (
        more.0,
        step_on (says sizes_in (lines_at number (matrix_text matrix ++ rest)))
            (sizes, lines_at (number + 1) text) with_sizes _
            (ap (λ t. says sizes_in (lines_at number t))
            (append_assoc head (flat_map line (row_lines matrix)) rest
            ∙ ap (λ t. head ++ t) (sym body))
            ∙ line_written sizes_in (λ s. codes "matrix" ∷ decimal s.0 ∷ decimal s.1 ∷ [])
            AreSizes sizes_reads number sizes text
            (record {
              rows = record { low = sound.some_rows; high = sound.few_rows };
              cells = record { low = sound.some_cells; high = sound.few_cells };
            }))
            (step_on (times (says (row_in cells)) matrix.rows (lines_at (number + 1) text))
            (rows, lines_at more.0 rest) (with_rows cells) _
            (ap (λ n. times (says (row_in cells)) n (lines_at (number + 1) text))
            (sym (length-rows_in matrix))
            ∙ more.1)
            (step_on (or_line (more.0 - 1) (matrix_of (rows_array matrix))) matrix
            (with_matrix (lines_at more.0 rest)) _
            (ap (or_line (more.0 - 1)) (is_of_rows matrix sound)) refl)),
      )

-- a row that was read has so many cells
row_wide : (cells : ℕ) (rows : List (List ℤ)) → AllByRecursion (IsRowLine cells) rows →
    AllByRecursion (λ row. length row ≡ cells) rows
row_wide cells [] each = tt
row_wide cells (row ∷ rows) each = (each.0.move.long, row_wide cells rows each.1)

-- a matrix that was read is what is written of it
pub matrix_is : (left rest : LinesLeft) (matrix : Design) → matrix_in left ≡ Ok (matrix, rest) →
    (text_left left ≡ matrix_text matrix ++ text_left rest) × IsDesign matrix
unfolding matrix_in
matrix_is left rest matrix e =
    let a = stepped (says sizes_in left) with_sizes (matrix, rest) e in
    let cells = a.0.0.1 in
    let count = a.0.0.0 in
    let b =
    stepped (times (says (row_in cells)) count a.0.1) (with_rows cells) (matrix, rest) a.2 in
    let array : Rows = record { width = cells; rows = b.0.0 } in
    let c =
    stepped (or_line (b.0.1.number - 1) (matrix_of array)) (with_matrix b.0.1) (matrix, rest)
    b.2 in
    let both : (c.0, b.0.1) ≡ (matrix, rest) = cc in
    let same = ap (λ (p : Design × LinesLeft). p.0) both in
    let after = ap (λ (p : Design × LinesLeft). text_left p.1) both in
    let head =
    line_is sizes_in (λ s. codes "matrix" ∷ decimal s.0 ∷ decimal s.1 ∷ []) AreSizes sizes_reads
    left a.0.1 a.0.0 a.1 in
    let some = head.1.cells.low in
    let rows =
    lines_are (row_in cells) (λ row. map signed_decimal row) (IsRowLine cells)
    (row_reads cells some) count a.0.1 b.0.1 b.0.0 b.1 in
    let made =
    accepted_at (b.0.1.number - 1) (matrix_of array) matrix (c.1 ∙ ap Ok same) in
    let found =
    matrix_accepted array matrix
    (All-from_recursion (λ row. length row ≡ cells) b.0.0 (row_wide cells b.0.0 rows.1)) made in
    let high : matrix.rows ≡ count = found.high ∙ rows.2 in
    let lines_are = ap (map (map signed_decimal)) (sym found.rows_are) ∙ lines_of_rows matrix in
    let first : ℕ → ℕ → List ℕ =
    λ n k. line (codes "matrix" ∷ decimal n ∷ decimal k ∷ []) in (
      head.0
          ∙ ap (λ t. first count cells ++ t)
          (rows.0 ∙ ap (λ list. flat_map line list ++ text_left b.0.1) lines_are
          ∙ ap (λ t. flat_map line (row_lines matrix) ++ t) after)
          ∙ ap (λ n. first n cells ++ (flat_map line (row_lines matrix) ++ text_left rest))
          (sym high)
          ∙ ap (λ n. first matrix.rows n
          ++ (flat_map line (row_lines matrix) ++ text_left rest)) (sym found.long)
          ∙ sym (append_assoc (first matrix.rows (length matrix.columns))
          (flat_map line (row_lines matrix)) (text_left rest)),
      found.design,
    )
