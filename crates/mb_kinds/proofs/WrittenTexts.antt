-- The text that is written of a record is read as the record.
use Rattle.std.proofs.Common.{All, List, Ok, [], ap, arith, codes, length, map, pos, refl, subst, sym, ℕ, ◌++◌, ◌+◌, ◌-◌, ◌<◌, ◌^◌, ◌∙◌, ◌∷◌, ◌≡◌}
use Rattle.std.proofs.lemmas.Grind.{flat_map-append}
use Rattle.std.proofs.lemmas.List.FromFn.{get_or-map-range_with_len, length-map-range_with_len}
use Rattle.std.proofs.lemmas.List.{length-map}
use Rattle.std.proofs.lemmas.Simd.{map-map}
use Rattle.std.specs.Fmt.{decimal}
use Rattle.std.specs.List.{flat_map, range_with_len}
use Rattle.mb_matrix.proofs.MatrixOfRows.{is_of_rows, row_long, row_small, rows_array}
use Rattle.mb_kinds.proofs.RecordSteps.{with_base, with_dataset, with_last, with_matrix, with_measure, with_rows, with_scale, with_sizes, with_version}
use Rattle.mb_kinds.proofs.SaidLines.{base_said, no_scale_fault, scale_are_items, scale_said, sizes_items, sizes_said}
use Rattle.mb_kinds.proofs.WrittenRecords.{IsRow, rows_written}
use Rattle.mb_kinds.specs.Model.{IsModel, ModelValue}
use Rattle.mb_kinds.specs.Record.{IsModelRecord, ModelRecord, base_items, scale_items, written_record}
use Rattle.mb_moves.specs.Written.{row_lines}
use Rattle.mb_kinds.specs.RecordText.{base_in, measure_in, model_in, record_of, rows_in as rows_from, scale_in, sizes_in}
use Rattle.mb_text.specs.Faults.{or_line}
use Rattle.mb_matrix.proofs.RowsAndColumns.{get_or-rows_in, length-rows_in}
use Rattle.mb_matrix.specs.Faults.{matrix_of}
use Rattle.mb_matrix.specs.Matrix.{Design, IsDesign, row_of, rows_in}
use Rattle.mb_matrix.specs.Measure.{IsMeasureOf, Weighting}
use Rattle.mb_moves.proofs.RowsEndToEnd.{array_of-end_to_end, end_to_end}
use Rattle.mb_tables.specs.Rows.{array_of}
use Rattle.mb_text.proofs.ItemBytes.{decimals_are_items}
use Rattle.mb_text.proofs.LineReaders.{line_read, name_reads}
use Rattle.mb_text.proofs.RecordSteps.{step_on}
use Rattle.mb_text.proofs.SaidLines.{says_written}
use Rattle.mb_text.specs.LineForms.{exactly, name_after}
use Rattle.mb_text.specs.Lines.{line, lines}
use Rattle.mb_text.specs.Name.{IsName}
use Rattle.mb_text.specs.RecordLines.{says}

-- the rows of a design matrix
abbrev rows_of : Design → List (List ℕ)
rows_of matrix = map (row_of matrix) (range_with_len 0 matrix.rows)

module _ (matrix : Design) (sound : IsDesign matrix) where
  -- each is a row
  is_row : (i : ℕ) → i < matrix.rows → IsRow (length matrix.columns) (row_of matrix i)
  is_row i l = record {
    long = row_long matrix sound i;
    small = row_small matrix sound i l;
  }

  -- all are
  are_rows : All (IsRow (length matrix.columns)) (rows_of matrix)
  are_rows k d l =
      let m : k < matrix.rows =
      let e = length-map-range_with_len (row_of matrix) 0 matrix.rows in omega arith in
      subst (IsRow (length matrix.columns))
      (sym (get_or-map-range_with_len (row_of matrix) 0 matrix.rows k k d m (omega arith)))
      (is_row k m)

  -- the lines of the rows are read
  pub rows_said : (number : ℕ) (rest : List ℕ) →
      rows_from number (length matrix.columns) matrix.rows
      (lines (flat_map line (row_lines matrix) ++ rest))
      ≡ Ok (end_to_end (rows_in matrix), lines rest)
  rows_said number rest =
      ap (λ n. rows_from number (length matrix.columns) n
      (lines (flat_map line (row_lines matrix) ++ rest)))
      (sym (length-map-range_with_len (row_of matrix) 0 matrix.rows))
      ∙ ap (λ list. rows_from number (length matrix.columns) (length (rows_of matrix))
      (lines (flat_map line list ++ rest)))
      (sym (map-map (map decimal) (row_of matrix) (range_with_len 0 matrix.rows)))
      ∙ rows_written (length matrix.columns) number rest (rows_of matrix) sound.some_cells are_rows
      ∙ ap (λ rows. Ok (end_to_end rows, lines rest))
      (map-map (map pos) (row_of matrix) (range_with_len 0 matrix.rows))

  -- each row has as many entries
  each_long : All (λ row. length row ≡ length matrix.columns) (rows_in matrix)
  each_long k d l =
      let m : k < matrix.rows = let e = length-rows_in matrix in omega arith in
      ap length (get_or-rows_in matrix k d m) ∙ length-map (row_of matrix k) pos
      ∙ row_long matrix sound k

  -- and the entries make the matrix
  pub matrix_said :
      matrix_of (array_of (length matrix.columns) matrix.rows (end_to_end (rows_in matrix)))
      ≡ Ok matrix
  matrix_said =
      ap matrix_of
      (array_of-end_to_end (rows_array matrix) matrix.rows (length matrix.columns) refl
      (length-rows_in matrix) each_long)
      ∙ is_of_rows matrix sound

  module _ (measure : Weighting) (is : IsMeasureOf matrix measure)
      (fits : All (λ n. n < 2 ^ 32) measure.bases) (number : ℕ) where
    -- the lines of the measure are read
    pub measure_said :
        measure_in number matrix
        (lines (line (scale_items measure.scale) ++ (line (base_items measure.bases)
        ++ (line (codes "end" ∷ []) ++ []))))
        ≡ Ok measure
    unfolding measure_in
    measure_said =
        let last = line (codes "end" ∷ []) ++ [] in
        let base = line (base_items measure.bases) ++ last in
        let fixed = no_scale_fault matrix measure is in
        let cells = length matrix.columns in
        step_on _ (measure.scale, lines base) (with_scale number matrix) _
        (says_written number (scale_in matrix) (scale_items measure.scale) base measure.scale
        (scale_are_items matrix measure.scale sound fixed)
        (scale_said matrix measure.scale sound fixed))
        (step_on _ (measure.bases, lines last) (with_base number matrix measure.scale) _
        (says_written (number + 1) (base_in cells) (base_items measure.bases) last measure.bases
        (decimals_are_items measure.bases fits)
        (base_said cells measure.bases sound.some_cells is.each_base fits))
        (step_on _ measure (with_measure number (lines last)) _
        (ap (or_line (number + 1)) is.made)
        (step_on _ (tt, lines []) (with_last number measure) _
        (says_written (number + 2) (exactly (codes "end")) (codes "end" ∷ []) [] tt refl refl)
        refl)))

-- the lines of a record, one after the other
pub text_is : (entry : ModelRecord) →
    written_record entry
    ≡ line (codes "model" ∷ codes "1" ∷ []) ++ (line (codes "dataset" ∷ entry.dataset ∷ [])
    ++ (line (codes "matrix" ∷ decimal entry.model.matrix.rows
    ∷ decimal (length entry.model.matrix.columns) ∷ [])
    ++ (flat_map line (row_lines entry.model.matrix)
    ++ (line (scale_items entry.model.measure.scale)
    ++ (line (base_items entry.model.measure.bases) ++ (line (codes "end" ∷ []) ++ []))))))
unfolding written_record
text_is entry =
    ap (λ text. line (codes "model" ∷ codes "1" ∷ [])
    ++ (line (codes "dataset" ∷ entry.dataset ∷ [])
    ++ (line (codes "matrix" ∷ decimal entry.model.matrix.rows
    ∷ decimal (length entry.model.matrix.columns) ∷ []) ++ text)))
    (flat_map-append line (row_lines entry.model.matrix)
    (scale_items entry.model.measure.scale ∷ base_items entry.model.measure.bases
    ∷ (codes "end" ∷ []) ∷ []))

-- the lines of a model are read
model_said : (model : ModelValue) → IsModel model →
    All (λ n. n < 2 ^ 32) model.measure.bases →
    model_in 4 (model.matrix.rows, length model.matrix.columns)
    (lines (flat_map line (row_lines model.matrix)
    ++ (line (scale_items model.measure.scale)
    ++ (line (base_items model.measure.bases) ++ (line (codes "end" ∷ []) ++ [])))))
    ≡ Ok model
unfolding model_in
model_said model is fits =
    let rows = model.matrix.rows in
    let sizes : ℕ × ℕ = (rows, length model.matrix.columns) in
    let rest =
    line (scale_items model.measure.scale)
    ++ (line (base_items model.measure.bases) ++ (line (codes "end" ∷ []) ++ [])) in
    step_on _ (end_to_end (rows_in model.matrix), lines rest) (with_rows 4 sizes) _
    (rows_said model.matrix is.design 4 rest)
    (step_on _ model.matrix (with_matrix 4 sizes (lines rest)) _
    (ap (or_line (4 + rows - 1)) (matrix_said model.matrix is.design))
    (step_on _ model.measure
    (λ measure. Ok (record { matrix = model.matrix; measure = measure })) _
    (measure_said model.matrix is.design model.measure is.weighted fits (4 + rows))
    refl))

-- the text of a record is read as the record
pub record_said : (entry : ModelRecord) → IsModelRecord entry →
    record_of (written_record entry) ≡ Ok entry
unfolding record_of
record_said entry is =
    let design = is.sound.design in
    let rows = entry.model.matrix.rows in
    let cells = length entry.model.matrix.columns in
    let model =
    flat_map line (row_lines entry.model.matrix)
    ++ (line (scale_items entry.model.measure.scale)
    ++ (line (base_items entry.model.measure.bases) ++ (line (codes "end" ∷ []) ++ []))) in
    let third = line (codes "matrix" ∷ decimal rows ∷ decimal cells ∷ []) ++ model in
    let second = line (codes "dataset" ∷ entry.dataset ∷ []) ++ third in
    step_on _ (tt, lines second) with_version _
    (ap (λ text. says 1 (exactly (codes "model 1")) (lines text)) (text_is entry)
    ∙ says_written 1 (exactly (codes "model 1")) (codes "model" ∷ codes "1" ∷ []) second tt refl
    refl)
    (step_on _ (entry.dataset, lines third) with_dataset _
    (line_read (name_after (codes "dataset")) (λ name. codes "dataset" ∷ name ∷ []) IsName
    (name_reads (codes "dataset") refl) 2 entry.dataset third is.named)
    (step_on _ ((rows, cells), lines model) (with_sizes entry.dataset) _
    (says_written 3 sizes_in (codes "matrix" ∷ decimal rows ∷ decimal cells ∷ []) model
    (rows, cells) (sizes_items rows cells design.few_rows design.few_cells)
    (sizes_said rows cells design.some_rows design.few_rows design.some_cells design.few_cells))
    (step_on _ entry.model
    (λ model. Ok (record { dataset = entry.dataset; model = model })) _
    (model_said entry.model is.sound is.fits) refl)))
