-- Independence of two factors: the log-linear model of r x c tables whose margins are the row
-- totals and the column totals (Agresti 1992). Cells go row by row.
use Rattle.std.specs.List.{flat_map, range_with_len}
use Rattle.std.specs.Prelude.{map, replicate, ℕ, ◌*◌, ◌+◌, ◌++◌}
use Rattle.mb_matrix.specs.Matrix.{Design}
use Rattle.mb_matrix.specs.Measure.{RowMargins, Weighting}
use Rattle.mb_tables.specs.Vectors.{unit}

-- the design matrix: each cell counts once in the total of its row, and once in that of its column
unfoldable pub independence : ℕ → ℕ → Design
independence r c = record {
  rows = r + c;
  columns =
      flat_map (λ i. map (λ j. unit r i ++ unit c j) (range_with_len 0 c)) (range_with_len 0 r);
}

-- the measure: the row totals are fixed, so that the cells of a row are a group, and the base
-- measure is 1
unfoldable pub sampled_by_rows : ℕ → ℕ → Weighting
sampled_by_rows r c = record {
  scale = RowMargins (range_with_len 1 r);
  groups = flat_map (λ i. replicate c i) (range_with_len 0 r);
  bases = replicate (r * c) 1;
}
