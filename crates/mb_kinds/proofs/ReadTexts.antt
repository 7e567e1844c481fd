-- A text that is read as a record is what is written of it.
use Rattle.std.proofs.Common.{All, List, None, Ok, Option, Result, Some, [], ap, append_assoc, codes, length, map, refl, suc, subst, sym, zero, ℕ, ℤ, ◌++◌, ◌+◌, ◌-◌, ◌<◌, ◌^◌, ◌∙◌, ◌∷◌, ◌≡◌}
use Rattle.std.proofs.lemmas.List.Elements.{All-from_recursion}
use Rattle.std.proofs.lemmas.List.Splits.{join_with_byte-slice_split}
use Rattle.std.specs.Fmt.{decimal, signed_decimal}
use Rattle.std.specs.List.{AllByRecursion, flat_map, join_with_byte}
use Rattle.mb_kinds.proofs.ReadLines.{base_read, dataset_read, row_read_back, scale_read, sizes_read}
use Rattle.mb_kinds.proofs.RecordSteps.{with_base, with_dataset, with_last, with_matrix, with_measure, with_rows, with_scale, with_sizes, with_version}
use Rattle.mb_kinds.proofs.WrittenTexts.{text_is}
use Rattle.mb_kinds.specs.Model.{IsModel, ModelValue}
use Rattle.mb_kinds.specs.Record.{IsModelRecord, ModelRecord, base_items, scale_items, written_record}
use Rattle.mb_moves.specs.Written.{row_lines}
use Rattle.mb_kinds.specs.RecordText.{base_in, dataset_in, measure_in, model_in, record_of, row_in, rows_in as rows_from, scale_in, sizes_in}
use Rattle.mb_text.specs.Faults.{or_line}
use Rattle.mb_matrix.proofs.NoFault.{IsMatrixOf, matrix_accepted}
use Rattle.mb_matrix.specs.Faults.{matrix_of, unless_fault}
use Rattle.mb_matrix.specs.Matrix.{Design}
use Rattle.mb_matrix.specs.Measure.{IsMeasureOf, Scheme, Weighting, groups_of, measure_fault, measure_of}
use Rattle.mb_matrix.specs.declared.measure_fault.MeasureFault.{MeasureFault}
use Rattle.mb_moves.proofs.RowsEndToEnd.{end_to_end, rows_of-end_to_end}
use Rattle.mb_tables.specs.Answers.{◌>>=◌}
use Rattle.mb_tables.specs.Rows.{Rows, array_of, rows_of}
use Rattle.mb_text.proofs.ItemBytes.{items_again}
use Rattle.mb_text.proofs.LineReaders.{exactly_read}
use Rattle.mb_text.proofs.RecordSteps.{accepted_at, stepped}
use Rattle.mb_text.proofs.SaidLines.{ends_read, line_is, says_read}
use Rattle.mb_text.specs.LineForms.{exactly}
use Rattle.mb_text.specs.Lines.{items, line, lines}
use Rattle.mb_text.specs.RecordLines.{ends, says}
use Rattle.mb_moves.proofs.RowLines.{lines_of_rows}

-- rows that were read
record RowsRead (cells count : ℕ) (pieces : List (List ℕ)) (entries : List ℤ)
    (rest : List (List ℕ)) : Type 0 where
  pub rows : List (List ℤ)
  pub many : length rows ≡ count
  pub wide : AllByRecursion (λ row. length row ≡ cells) rows
  pub entries_are : entries ≡ end_to_end rows
  pub joined : join_with_byte 10 pieces
      ≡ flat_map line (map (map signed_decimal) rows) ++ join_with_byte 10 rest

-- each line of theirs is what is written of a row
rows_read : (number cells count : ℕ) (pieces : List (List ℕ)) (entries : List ℤ)
    (rest : List (List ℕ)) → rows_from number cells count pieces ≡ Ok (entries, rest) →
    RowsRead cells count pieces entries rest
unfolding rows_from
rows_read number cells zero pieces entries rest e =
    let both : ([], pieces) ≡ (entries, rest) = cc in
    record {
      rows = [];
      many = refl;
      wide = tt;
      entries_are = sym (ap (λ (p : List ℤ × List (List ℕ)). p.0) both);
      joined = ap (λ (p : List ℤ × List (List ℕ)). join_with_byte 10 p.1) both;
    }
rows_read number cells (suc count) pieces entries rest e =
    let next : List ℤ × List (List ℕ) → Result (List ℤ × List (List ℕ)) ℕ =
    λ row. rows_from (number + 1) cells count row.1 >>= λ others.
    Ok (row.0 ++ others.0, others.1) in
    let first = stepped (says number (row_in cells) pieces) next (entries, rest) e in
    let after : List ℤ × List (List ℕ) → Result (List ℤ × List (List ℕ)) ℕ =
    λ others. Ok (first.0.0 ++ others.0, others.1) in
    let more =
    stepped (rows_from (number + 1) cells count first.0.1) after (entries, rest) first.2 in
    let found = says_read number (row_in cells) pieces first.0.0 first.0.1 first.1 in
    let row = row_read_back cells found.first first.0.0 found.is_read in
    let others = rows_read (number + 1) cells count first.0.1 more.0.0 more.0.1 more.1 in
    let both : (first.0.0 ++ more.0.0, more.0.1) ≡ (entries, rest) = cc in
    record {
      rows = first.0.0 ∷ others.rows;
      many = ap suc others.many;
      wide = (row.1, others.wide);
      entries_are =
          sym (ap (λ (p : List ℤ × List (List ℕ)). p.0) both)
          ∙ ap (λ list. first.0.0 ++ list) others.entries_are;
      joined =
          line_is found (map signed_decimal first.0.0) row.0
          ∙ ap (λ text. line (map signed_decimal first.0.0) ++ text) others.joined
          ∙ sym (append_assoc (line (map signed_decimal first.0.0))
          (flat_map line (map (map signed_decimal) others.rows)) (join_with_byte 10 more.0.1))
          ∙ ap (λ (p : List ℤ × List (List ℕ)).
          (line (map signed_decimal first.0.0)
          ++ flat_map line (map (map signed_decimal) others.rows)) ++ join_with_byte 10 p.1) both;
    }

-- a matrix of rows that were read
matrix_read : (cells count : ℕ) (matrix : Design) (rows : List (List ℤ)) → length rows ≡ count →
    All (λ row. length row ≡ cells) rows →
    matrix_of (array_of cells count (end_to_end rows)) ≡ Ok matrix →
    IsMatrixOf (record { width = cells; rows = rows }) matrix
matrix_read cells count matrix rows many wide e =
    let made : ℕ → List (List ℤ) → Rows = λ w r. record { width = w; rows = r } in
    let same : array_of cells count (end_to_end rows) ≡ made cells rows =
    ap (λ n. made cells (rows_of cells n (end_to_end rows))) (sym many)
    ∙ ap (made cells) (rows_of-end_to_end cells rows wide) in
    matrix_accepted (made cells rows) matrix wide (sym (ap matrix_of same) ∙ e)

-- a measure that is accepted has its scale and base
measure_is : (matrix : Design) (scale : Scheme) (base : List ℕ) (measure : Weighting) →
    measure_of matrix scale base ≡ Ok measure →
    (measure.scale ≡ scale) × (measure.bases ≡ base)
measure_is matrix scale base measure e = by (measure_fault matrix scale base) e
  where
    by : (fault : Option MeasureFault) →
        unless_fault fault
        (record { scale = scale; groups = groups_of matrix scale; bases = base }) ≡ Ok measure →
        (measure.scale ≡ scale) × (measure.bases ≡ base)
    by None f =
        let same : record { scale = scale; groups = groups_of matrix scale; bases = base }
        ≡ measure = cc in
        (sym (ap (λ (m : Weighting). m.scale) same), sym (ap (λ (m : Weighting). m.bases) same))
    by (Some fault) f = absurd cc

-- a measure that was read, to the end of the text
record MeasureRead (matrix : Design) (pieces : List (List ℕ)) (measure : Weighting) :
    Type 0 where
  pub is : IsMeasureOf matrix measure
  pub fits : All (λ number. number < 2 ^ 32) measure.bases
  pub joined : join_with_byte 10 pieces
      ≡ line (scale_items measure.scale) ++ (line (base_items measure.bases)
      ++ (line (codes "end" ∷ []) ++ []))

-- so is each
measure_read : (number : ℕ) (matrix : Design) (pieces : List (List ℕ)) (measure : Weighting) →
    measure_in number matrix pieces ≡ Ok measure → MeasureRead matrix pieces measure
unfolding measure_in
measure_read number matrix pieces measure e =
    let cells = length matrix.columns in
    let one =
    stepped (says number (scale_in matrix) pieces) (with_scale number matrix) measure e in
    let two =
    stepped (says (number + 1) (base_in cells) one.0.1) (with_base number matrix one.0.0) measure
    one.2 in
    let three =
    stepped (or_line (number + 1) (measure_of matrix one.0.0 two.0.0))
    (with_measure number two.0.1) measure two.2 in
    let four =
    stepped (says (number + 2) (exactly (codes "end")) two.0.1) (with_last number three.0) measure
    three.2 in
    let last : Unit {0} → Result Weighting ℕ = λ nothing. Ok three.0 in
    let five = stepped (ends (number + 3) four.0.1) last measure four.2 in
    let final : three.0 ≡ measure = cc in
    let made =
    accepted_at (number + 1) (measure_of matrix one.0.0 two.0.0) three.0 three.1 ∙ ap Ok final in
    let parts = measure_is matrix one.0.0 two.0.0 measure made in
    let scale_line = says_read number (scale_in matrix) pieces one.0.0 one.0.1 one.1 in
    let base_line = says_read (number + 1) (base_in cells) one.0.1 two.0.0 two.0.1 two.1 in
    let last_line =
    says_read (number + 2) (exactly (codes "end")) two.0.1 four.0.0 four.0.1 four.1 in
    let scale = scale_read matrix scale_line.first one.0.0 scale_line.is_read in
    let base = base_read cells base_line.first two.0.0 base_line.is_read in
    let ending = exactly_read (codes "end") last_line.first four.0.0 last_line.is_read in
    record {
      is = record {
        each_base = ap length parts.1 ∙ base.1;
        made =
            ap (λ s. measure_of matrix s measure.bases) parts.0
            ∙ ap (λ b. measure_of matrix one.0.0 b) parts.1 ∙ made;
      };
      fits = subst (λ list. All (λ n. n < 2 ^ 32) list) (sym parts.1) base.2;
      joined =
          line_is scale_line (scale_items measure.scale) (scale ∙ ap scale_items (sym parts.0))
          ∙ ap (λ text. line (scale_items measure.scale) ++ text)
          (line_is base_line (base_items measure.bases) (base.0 ∙ ap base_items (sym parts.1))
          ∙ ap (λ text. line (base_items measure.bases) ++ text)
          (line_is last_line (codes "end" ∷ [])
          (ap items ending ∙ items_again (codes "end" ∷ []) (λ x. cc) refl)
          ∙ ap (λ ps. line (codes "end" ∷ []) ++ join_with_byte 10 ps)
          (ends_read (number + 3) four.0.1 five.0 five.1)));
    }

-- a model that was read, to the end of the text
record ModelRead (sizes : ℕ × ℕ) (pieces : List (List ℕ)) (model : ModelValue) : Type 0 where
  pub sound : IsModel model
  pub fits : All (λ number. number < 2 ^ 32) model.measure.bases
  pub high : model.matrix.rows ≡ sizes.0
  pub long : length model.matrix.columns ≡ sizes.1
  pub joined : join_with_byte 10 pieces
      ≡ flat_map line (row_lines model.matrix)
      ++ (line (scale_items model.measure.scale) ++ (line (base_items model.measure.bases)
      ++ (line (codes "end" ∷ []) ++ [])))

-- so is each
model_read : (number : ℕ) (sizes : ℕ × ℕ) (pieces : List (List ℕ)) (model : ModelValue) →
    model_in number sizes pieces ≡ Ok model → ModelRead sizes pieces model
unfolding model_in
model_read number sizes pieces model e =
    let one =
    stepped (rows_from number sizes.1 sizes.0 pieces) (with_rows number sizes) model e in
    let two =
    stepped (or_line (number + sizes.0 - 1) (matrix_of (array_of sizes.1 sizes.0 one.0.0)))
    (with_matrix number sizes one.0.1) model one.2 in
    let made : Weighting → Result ModelValue ℕ =
    λ measure. Ok (record { matrix = two.0; measure = measure }) in
    let three = stepped (measure_in (number + sizes.0) two.0 one.0.1) made model two.2 in
    let rows = rows_read number sizes.1 sizes.0 pieces one.0.0 one.0.1 one.1 in
    let wide = All-from_recursion (λ row. length row ≡ sizes.1) rows.rows rows.wide in
    let matrix =
    matrix_read sizes.1 sizes.0 two.0 rows.rows rows.many wide
    (sym (ap (λ entries. matrix_of (array_of sizes.1 sizes.0 entries)) rows.entries_are)
    ∙ accepted_at (number + sizes.0 - 1) (matrix_of (array_of sizes.1 sizes.0 one.0.0)) two.0
    two.1) in
    let measure = measure_read (number + sizes.0) two.0 one.0.1 three.0 three.1 in
    let whole : ModelValue = record { matrix = two.0; measure = three.0 } in
    let same : whole ≡ model = cc in
    let found : ModelRead sizes pieces whole =
    record {
      sound = record { design = matrix.design; weighted = measure.is };
      fits = measure.fits;
      high = matrix.high ∙ rows.many;
      long = matrix.long;
      joined =
          rows.joined
          ∙ ap (λ text. flat_map line (map (map signed_decimal) rows.rows) ++ text) measure.joined
          ∙ ap (λ list. flat_map line list ++ (line (scale_items three.0.scale)
          ++ (line (base_items three.0.bases) ++ (line (codes "end" ∷ []) ++ []))))
          (ap (map (map signed_decimal)) (sym matrix.rows_are) ∙ lines_of_rows two.0);
    } in
    subst (ModelRead sizes pieces) same found

-- a text of these lines is what is written of a record
text_joined : (entry : ModelRecord) (text one two three : List ℕ) (rows cells : ℕ) →
    text ≡ line (codes "model" ∷ codes "1" ∷ []) ++ one →
    one ≡ line (codes "dataset" ∷ entry.dataset ∷ []) ++ two →
    two ≡ line (codes "matrix" ∷ decimal rows ∷ decimal cells ∷ []) ++ three →
    three ≡ flat_map line (row_lines entry.model.matrix)
    ++ (line (scale_items entry.model.measure.scale)
    ++ (line (base_items entry.model.measure.bases) ++ (line (codes "end" ∷ []) ++ []))) →
    entry.model.matrix.rows ≡ rows → length entry.model.matrix.columns ≡ cells →
    text ≡ written_record entry
text_joined entry text one two three rows cells e1 e2 e3 e4 er ec =
    e1 ∙ ap (λ t. line (codes "model" ∷ codes "1" ∷ []) ++ t)
    (e2 ∙ ap (λ t. line (codes "dataset" ∷ entry.dataset ∷ []) ++ t)
    (e3 ∙ ap (λ n. line (codes "matrix" ∷ decimal n ∷ decimal cells ∷ []) ++ three) (sym er)
    ∙ ap (λ n. line (codes "matrix" ∷ decimal entry.model.matrix.rows ∷ decimal n ∷ [])
    ++ three) (sym ec)
    ∙ ap (λ t. line (codes "matrix" ∷ decimal entry.model.matrix.rows
    ∷ decimal (length entry.model.matrix.columns) ∷ []) ++ t) e4))
    ∙ sym (text_is entry)

-- a text that is read as a record is what is written of it
pub record_read : (text : List ℕ) (entry : ModelRecord) → record_of text ≡ Ok entry →
    (text ≡ written_record entry) × IsModelRecord entry
unfolding record_of
record_read text entry e =
    let one =
    stepped (says 1 (exactly (codes "model 1")) (lines text)) with_version entry e in
    let two = stepped (says 2 dataset_in one.0.1) with_dataset entry one.2 in
    let three = stepped (says 3 sizes_in two.0.1) (with_sizes two.0.0) entry two.2 in
    let made : ModelValue → Result ModelRecord ℕ =
    λ model. Ok (record { dataset = two.0.0; model = model }) in
    let four = stepped (model_in 4 three.0.0 three.0.1) made entry three.2 in
    let version =
    says_read 1 (exactly (codes "model 1")) (lines text) one.0.0 one.0.1 one.1 in
    let dataset = says_read 2 dataset_in one.0.1 two.0.0 two.0.1 two.1 in
    let sizes = says_read 3 sizes_in two.0.1 three.0.0 three.0.1 three.1 in
    let model = model_read 4 three.0.0 three.0.1 four.0 four.1 in
    let named = dataset_read dataset.first two.0.0 dataset.is_read in
    let whole : ModelRecord = record { dataset = two.0.0; model = four.0 } in
    let same : whole ≡ entry = cc in
    let found : (text ≡ written_record whole) × IsModelRecord whole = (
      text_joined whole text (join_with_byte 10 one.0.1) (join_with_byte 10 two.0.1)
          (join_with_byte 10 three.0.1) three.0.0.0 three.0.0.1
          (sym (join_with_byte-slice_split 10 text)
          ∙ line_is version (codes "model" ∷ codes "1" ∷ [])
          (ap items (exactly_read (codes "model 1") version.first one.0.0 version.is_read)
          ∙ items_again (codes "model" ∷ codes "1" ∷ []) (λ x. cc) refl))
          (line_is dataset (codes "dataset" ∷ two.0.0 ∷ []) named.0)
          (line_is sizes (codes "matrix" ∷ decimal three.0.0.0 ∷ decimal three.0.0.1 ∷ [])
          (sizes_read sizes.first three.0.0 sizes.is_read))
          model.joined model.high model.long,
      record { named = named.1; sound = model.sound; fits = model.fits },
    ) in
    subst (λ r. (text ≡ written_record r) × IsModelRecord r) same found
