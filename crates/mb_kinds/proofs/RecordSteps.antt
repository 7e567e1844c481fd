-- The steps of reading a record, one after the other.
use Rattle.std.proofs.Common.{List, Ok, Result, ℕ, ℤ, ◌+◌, ◌-◌}
use Rattle.mb_kinds.specs.Model.{ModelValue}
use Rattle.mb_kinds.specs.Record.{ModelRecord}
use Rattle.mb_kinds.specs.RecordText.{base_in, dataset_in, measure_in, model_in, sizes_in}
use Rattle.mb_text.specs.Faults.{or_line}
use Rattle.std.specs.Prelude.{codes, length}
use Rattle.mb_matrix.specs.Faults.{matrix_of}
use Rattle.mb_matrix.specs.Matrix.{Design}
use Rattle.mb_matrix.specs.Measure.{Scheme, Weighting, measure_of}
use Rattle.mb_tables.specs.Answers.{◌>>=◌}
use Rattle.mb_tables.specs.Rows.{array_of}
use Rattle.mb_text.specs.LineForms.{exactly}
use Rattle.mb_text.specs.RecordLines.{ends, says}

-- after the name and the sizes
abbrev pub with_sizes : List ℕ → (ℕ × ℕ) × List (List ℕ) → Result ModelRecord ℕ
with_sizes dataset sizes =
    model_in 4 sizes.0 sizes.1 >>= λ model. Ok (record { dataset = dataset; model = model })

-- after the name
abbrev pub with_dataset : List ℕ × List (List ℕ) → Result ModelRecord ℕ
with_dataset dataset = says 3 sizes_in dataset.1 >>= λ sizes. with_sizes dataset.0 sizes

-- after the first line
abbrev pub with_version : Unit {0} × List (List ℕ) → Result ModelRecord ℕ
with_version version = says 2 dataset_in version.1 >>= λ dataset. with_dataset dataset

-- after the matrix
abbrev pub with_matrix : ℕ → ℕ × ℕ → List (List ℕ) → Design → Result ModelValue ℕ
with_matrix number sizes pieces matrix =
    measure_in (number + sizes.0) matrix pieces >>= λ measure.
    Ok (record { matrix = matrix; measure = measure })

-- after the rows
abbrev pub with_rows : ℕ → ℕ × ℕ → List ℤ × List (List ℕ) → Result ModelValue ℕ
with_rows number sizes rows =
    or_line (number + sizes.0 - 1) (matrix_of (array_of sizes.1 sizes.0 rows.0)) >>= λ matrix.
    with_matrix number sizes rows.1 matrix

-- after the last line
abbrev pub with_last : ℕ → Weighting → Unit {0} × List (List ℕ) → Result Weighting ℕ
with_last number measure last = ends (number + 3) last.1 >>= λ nothing. Ok measure

-- after the measure
abbrev pub with_measure : ℕ → List (List ℕ) → Weighting → Result Weighting ℕ
with_measure number pieces measure =
    says (number + 2) (exactly (codes "end")) pieces >>= λ last. with_last number measure last

-- after the base
abbrev pub with_base : ℕ → Design → Scheme → List ℕ × List (List ℕ) → Result Weighting ℕ
with_base number matrix scale base =
    or_line (number + 1) (measure_of matrix scale base.0) >>= λ measure.
    with_measure number base.1 measure

-- after the scale
abbrev pub with_scale : ℕ → Design → Scheme × List (List ℕ) → Result Weighting ℕ
with_scale number matrix scale =
    says (number + 1) (base_in (length matrix.columns)) scale.1 >>= λ base.
    with_base number matrix scale.0 base
