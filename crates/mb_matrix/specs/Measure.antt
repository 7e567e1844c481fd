-- The scale and the base measure of a design matrix: how the counts of a table are sampled.
use Rattle.std.specs.List.{count_by, find, list_all, position, position_or_len, range_with_len}
use Rattle.std.specs.Option.{option_or}
use Rattle.std.specs.Prelude.{All, Bool, List, None, Ok, Option, Result, Some, [], length, map, nat_le, not, option_map, sum, zero, suc, ℕ, ◌&&◌, ◌==◌, ◌≡◌, ◌≤◌}
use Rattle.mb_matrix.specs.Matrix.{Design, column_at, row_of}
use Rattle.mb_matrix.specs.declared.measure_fault.MeasureFault.{MeasureFault}
use Rattle.mb_matrix.specs.declared.measure_fault.MeasureFault.TheVariants.{BadBase, BadScaleRow, OutOfMemory, ScaleNotCover}
use Rattle.mb_tables.specs.Limits.{most_cells}
use Rattle.mb_tables.specs.Vectors.{at}
use Rattle.mb_matrix.specs.Faults.{unless_fault}

-- the sampling scheme, by the margins that it fixes: the total alone (one multinomial sample), or
-- the margins of these rows (a sample in each row's cells, product multinomial); rows count from 1
pub data Scheme : Type 0 where
  Total : Scheme
  RowMargins : List ℕ → Scheme

-- the row of a number from 1; there is no row 0
abbrev pub numbered_row : Design → ℕ → List ℕ
numbered_row matrix zero = []
numbered_row matrix (suc i) = row_of matrix i

-- whether there is a row of this number, and each of its entries is 0 or 1
abbrev pub is_group_row : Design → ℕ → Bool
is_group_row matrix n =
    nat_le 1 n && nat_le n matrix.rows
    && list_all (λ entry. nat_le entry 1) (numbered_row matrix n)

-- whether the row of this number has a 1 at a cell: its group is the cells where it has
abbrev pub has_cell : Design → ℕ → ℕ → Bool
has_cell matrix cell n = at (numbered_row matrix n) cell == 1

-- the numbers of all cells
abbrev pub cells_of : Design → List ℕ
cells_of matrix = range_with_len 0 (length matrix.columns)

-- the lowest cell that isn't in exactly one of the groups of these rows
abbrev pub uncovered : Design → List ℕ → Option ℕ
uncovered matrix rows =
    position (λ cell. not (count_by (has_cell matrix cell) rows == 1)) (cells_of matrix)

-- the lowest cell whose column adds up to another sum than that of cell 0: where there is none,
-- the margins fix the total
abbrev pub uneven : Design → Option ℕ
uneven matrix =
    position (λ column. not (sum column == sum (column_at matrix 0))) matrix.columns

-- why a design matrix doesn't fix the total
abbrev pub total_fault : Design → Option MeasureFault
total_fault matrix = option_map ScaleNotCover (uneven matrix)

-- why these rows don't group the cells: the first number that is no row of zeros and ones, and then
-- the lowest cell that isn't in exactly one group
abbrev pub rows_fault : Design → List ℕ → Option MeasureFault
rows_fault matrix rows =
    option_or (option_map BadScaleRow (find (λ n. not (is_group_row matrix n)) rows))
    (option_map ScaleNotCover (uncovered matrix rows))

-- why a design matrix doesn't fix these margins
abbrev pub scale_fault : Design → Scheme → Option MeasureFault
scale_fault matrix Total = total_fault matrix
scale_fault matrix (RowMargins rows) = rows_fault matrix rows

-- the lowest cell whose base is 0
abbrev pub base_fault : List ℕ → Option MeasureFault
base_fault base = option_map BadBase (position (λ number. number == 0) base)

-- the group of a cell: the place, from 0, of the row among the named ones that has it
abbrev pub group_at : Design → Scheme → ℕ → ℕ
group_at matrix Total cell = 0
group_at matrix (RowMargins rows) cell = position_or_len (has_cell matrix cell) rows

-- the group of each cell
abbrev pub groups_of : Design → Scheme → List ℕ
groups_of matrix scale = map (group_at matrix scale) (cells_of matrix)

-- the sampling scheme, the group of each cell, and each cell's number of the base measure
pub record Weighting : Type 0 where
  pub scale : Scheme
  pub groups : List ℕ
  pub bases : List ℕ

-- each cell, of 1 to 64, has a group and a base number of 1 or more
pub record AreWeights (groups bases : List ℕ) : Type 0 where
  pub some : 1 ≤ length bases
  pub few : length bases ≤ most_cells
  pub each_group : length groups ≡ length bases
  pub positive : All (λ number. 1 ≤ number) bases

-- the first fault of a scale and a base
abbrev pub measure_fault : Design → Scheme → List ℕ → Option MeasureFault
measure_fault matrix scale base = option_or (scale_fault matrix scale) (base_fault base)

-- the measure that a scale and a base are on a design matrix, or their first fault
abbrev pub measure_of : Design → Scheme → List ℕ → Result Weighting MeasureFault
measure_of matrix scale base =
    unless_fault (measure_fault matrix scale base)
    (record { scale = scale; groups = groups_of matrix scale; bases = base })

-- a measure that meets these rules for a design matrix
pub record IsMeasureOf (matrix : Design) (measure : Weighting) : Type 0 where
  pub each_base : length measure.bases ≡ length matrix.columns
  pub made : measure_of matrix measure.scale measure.bases ≡ Ok measure

-- the cause of a refusal; want of memory has none
abbrev pub measure_cause : MeasureFault → Option MeasureFault
measure_cause OutOfMemory = None
measure_cause fault = Some fault
