-- The model record that a text is, or its first wrong line. Lines count from 1.
use Rattle.std.specs.List.{list_all}
use Rattle.std.specs.Option.{is_none, option_and_then, option_map}
use Rattle.std.specs.Prelude.{List, None, Ok, Option, Result, Some, [], codes, if◌then◌else◌, length, suc, zero, ℕ, ℤ, ◌&&◌, ◌++◌, ◌+◌, ◌-◌, ◌==◌, ◌^◌, ◌∷◌}
use Rattle.std.specs.Str.{bytes_eq}
use Rattle.mb_kinds.specs.Model.{ModelValue}
use Rattle.mb_kinds.specs.Record.{ModelRecord}
use Rattle.mb_matrix.specs.Faults.{is_size, matrix_of}
use Rattle.mb_matrix.specs.Matrix.{Design, is_design_entry}
use Rattle.mb_matrix.specs.Measure.{RowMargins, Scheme, Total, Weighting, measure_of, scale_fault}
use Rattle.mb_tables.specs.Answers.{◌>>=◌}
use Rattle.mb_tables.specs.Rows.{array_of}
use Rattle.mb_text.specs.LineForms.{after, exactly, name_after, numbers_after, passing}
use Rattle.mb_text.specs.Lines.{items, lines}
use Rattle.mb_text.specs.Plain.{each_of, plain_signed_of, size_at_most}
use Rattle.mb_text.specs.RecordLines.{ends, says}
use Rattle.mb_text.specs.Faults.{or_line}

-- the name of the dataset
abbrev pub dataset_in : List ℕ → Option (List ℕ)
dataset_in line = name_after (codes "dataset") line

-- two numbers, each of 1 to 64
abbrev pub two_sizes : List ℕ → Option (ℕ × ℕ)
two_sizes (rows ∷ cells ∷ []) = if is_size rows && is_size cells then Some (rows, cells) else None
two_sizes _ = None

-- the numbers of rows and of cells
abbrev pub sizes_in : List ℕ → Option (ℕ × ℕ)
sizes_in line = option_and_then two_sizes (numbers_after (codes "matrix") (items line))

-- a row of so many cells
abbrev pub whole_row : ℕ → List ℤ → Option (List ℤ)
whole_row cells row =
    passing (λ entries. length entries == cells && list_all is_design_entry entries) row

-- the entries of a row
abbrev pub row_in : ℕ → List ℕ → Option (List ℤ)
row_in cells line =
    option_and_then (whole_row cells)
    (each_of (λ item. size_at_most (2 ^ 31 - 1) (plain_signed_of item)) (items line))

-- the entries of so many rows, row by row, from the line of this number on, and the pieces after
unfoldable pub rows_in : ℕ → ℕ → ℕ → List (List ℕ) → Result (List ℤ × List (List ℕ)) ℕ
rows_in number cells zero pieces = Ok ([], pieces)
rows_in number cells (suc count) pieces =
    says number (row_in cells) pieces >>= λ row.
    rows_in (number + 1) cells count row.1 >>= λ others.
    Ok (row.0 ++ others.0, others.1)

-- the sampling scheme that a line says
abbrev pub scheme_in : List ℕ → Option Scheme
scheme_in line =
    if bytes_eq line (codes "scale all") then Some Total
    else option_map RowMargins
    (option_and_then (numbers_after (codes "rows")) (after (codes "scale") (items line)))

-- the scheme, where the matrix fixes its margins
abbrev pub fixed_by : Design → Scheme → Option Scheme
fixed_by matrix scale = passing (λ s. is_none (scale_fault matrix s)) scale

-- the scale on a matrix
abbrev pub scale_in : Design → List ℕ → Option Scheme
scale_in matrix line = option_and_then (fixed_by matrix) (scheme_in line)

-- so many numbers
abbrev pub as_many : ℕ → List ℕ → Option (List ℕ)
as_many cells numbers = passing (λ list. length list == cells) numbers

-- the base numbers of so many cells
abbrev pub base_in : ℕ → List ℕ → Option (List ℕ)
base_in cells line = option_and_then (as_many cells) (numbers_after (codes "base") (items line))

-- the scale and the base on a matrix, from the line of this number on to the end of the text. The
-- scale is decided at its own line, and what is then refused at that of the base
unfoldable pub measure_in : ℕ → Design → List (List ℕ) → Result Weighting ℕ
measure_in number matrix pieces =
    says number (scale_in matrix) pieces >>= λ scale.
    says (number + 1) (base_in (length matrix.columns)) scale.1 >>= λ base.
    or_line (number + 1) (measure_of matrix scale.0 base.0) >>= λ measure.
    says (number + 2) (exactly (codes "end")) base.1 >>= λ last.
    ends (number + 3) last.1 >>= λ nothing.
    Ok measure

-- a matrix of these sizes from the line of this number on, and the measure on it. A matrix whose
-- lines are right, and which is refused as a whole, is wrong at the line of its last row
unfoldable pub model_in : ℕ → ℕ × ℕ → List (List ℕ) → Result ModelValue ℕ
model_in number sizes pieces =
    rows_in number sizes.1 sizes.0 pieces >>= λ rows.
    or_line (number + sizes.0 - 1) (matrix_of (array_of sizes.1 sizes.0 rows.0)) >>= λ matrix.
    measure_in (number + sizes.0) matrix rows.1 >>= λ measure.
    Ok (record { matrix = matrix; measure = measure })

-- the record that a text is, or the number of its first wrong line
unfoldable pub record_of : List ℕ → Result ModelRecord ℕ
record_of text =
    says 1 (exactly (codes "model 1")) (lines text) >>= λ version.
    says 2 dataset_in version.1 >>= λ dataset.
    says 3 sizes_in dataset.1 >>= λ sizes.
    model_in 4 sizes.0 sizes.1 >>= λ model.
    Ok (record { dataset = dataset.0; model = model })
