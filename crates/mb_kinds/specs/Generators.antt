-- Hierarchical models: the rows of a generator are its combinations of levels.
use Rattle.std.specs.Cmp.Lexicographic.{pointwise}
use Rattle.std.specs.List.{filter, flat_map, list_all, list_any, range_with_len, slice_index_or}
use Rattle.std.specs.Prelude.{Bool, Err, List, None, Ok, Option, Result, Some, [], if◌then◌else◌, length, map, nat_eq, pos, ℕ, ℤ, ◌==◌}
use Rattle.std.specs.Str.{bytes_eq}
use Rattle.mb_data.specs.CrossTable.{CrossTable, cell_numbers, combination, combinations, counts, sizes}
use Rattle.mb_kinds.specs.Model.{ModelValue}
use Rattle.mb_kinds.specs.declared.kind_fault.KindFault.{KindFault}
use Rattle.mb_kinds.specs.declared.kind_fault.KindFault.TheVariants.{CellCount, Matrix, Measure}
use Rattle.mb_matrix.specs.Faults.{matrix_of}
use Rattle.mb_matrix.specs.Matrix.{Design}
use Rattle.mb_matrix.specs.Measure.{RowMargins, Scheme, Weighting, measure_of}
use Rattle.mb_matrix.specs.declared.fault.MatrixFault.{MatrixFault}
use Rattle.mb_matrix.specs.declared.measure_fault.MeasureFault.{MeasureFault}
use Rattle.mb_tables.specs.Answers.{◌>>=◌}
use Rattle.mb_tables.specs.Rows.{Rows}
use Rattle.mb_tables.specs.Vectors.{at}

-- how many cells there are
abbrev pub cell_count : CrossTable → ℕ
cell_count table = length (counts table.entries)

-- whether a name is one of the names
abbrev pub is_among : List (List ℕ) → List ℕ → Bool
is_among names name = list_any (bytes_eq name) names

-- whether each name is a factor's
abbrev pub are_factors : List (List ℕ) → List (List ℕ) → Bool
are_factors factors names = list_all (is_among factors) names

-- the factors that are named, by their places in the dataset's order; one named twice counts once
abbrev pub factors_named : List (List ℕ) → List (List ℕ) → List ℕ
factors_named factors names =
    filter (λ k. is_among names (slice_index_or factors k []))
    (range_with_len 0 (length factors))

-- how many levels each of these factors has
abbrev pub sizes_of : List (List (List ℕ)) → List ℕ → List ℕ
sizes_of levels generator = map (at (sizes levels)) generator

-- the levels of these factors in the combination of this number
abbrev pub levels_of : List (List (List ℕ)) → List ℕ → ℕ → List ℕ
levels_of levels generator number = map (at (combination (sizes levels) number)) generator

-- 1 where it is so
abbrev pub indicator : Bool → ℤ
indicator holds = if holds then pos 1 else pos 0

-- the row of these levels of a generator's factors: the indicator of the cells that have them
abbrev pub level_row : CrossTable → List ℕ → List ℕ → List ℤ
level_row table generator places =
    map (λ cell. indicator (pointwise nat_eq places (levels_of table.levels generator cell)))
    (cell_numbers table.entries)

-- the number of combinations of the levels of a generator's factors
abbrev pub margin_size : CrossTable → List ℕ → ℕ
margin_size table generator = combinations (sizes_of table.levels generator)

-- the rows of a generator: one for each combination of its factors' levels, the first slowest
abbrev pub margin_rows : CrossTable → List ℕ → List (List ℤ)
margin_rows table generator =
    map (λ k. level_row table generator (combination (sizes_of table.levels generator) k))
    (range_with_len 0 (margin_size table generator))

-- the array of a hierarchical model: the rows of each generator
abbrev pub margin_array : CrossTable → List (List ℕ) → Rows
margin_array table generators = record {
  width = cell_count table;
  rows = flat_map (margin_rows table) generators;
}

-- the scale: the rows of the first generator
abbrev pub first_margin : CrossTable → List (List ℕ) → Scheme
first_margin table generators =
    RowMargins (range_with_len 1 (margin_size table (slice_index_or generators 0 [])))

-- the base numbers of so many cells: those that are given, or ones
abbrev pub base_for : ℕ → Option (List ℕ) → Result (List ℕ) KindFault
base_for cells None = Ok (map (λ k. 1) (range_with_len 0 cells))
base_for cells (Some base) =
    if length base == cells then Ok base else Err (CellCount (length base) cells)

-- a fault of the matrix, as one of the model
abbrev pub of_matrix : Result Design MatrixFault → Result Design KindFault
of_matrix (Ok matrix) = Ok matrix
of_matrix (Err fault) = Err (Matrix fault)

-- a fault of the measure, as one of the model
abbrev pub of_measure : Result Weighting MeasureFault → Result Weighting KindFault
of_measure (Ok measure) = Ok measure
of_measure (Err fault) = Err (Measure fault)

-- the model of an array, a scale and base numbers
abbrev pub model_on : Rows → Scheme → List ℕ → Result ModelValue KindFault
model_on array scale base = do
  matrix ← of_matrix (matrix_of array)
  measure ← of_measure (measure_of matrix scale base)
  Ok (record { matrix = matrix; measure = measure })

-- the hierarchical model of generators, each the places of its factors
abbrev pub margins_model : CrossTable → List (List ℕ) → Option (List ℕ) →
    Result ModelValue KindFault
margins_model table generators given = do
  base ← base_for (cell_count table) given
  model_on (margin_array table generators) (first_margin table generators) base
