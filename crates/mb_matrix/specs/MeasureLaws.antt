-- The laws of groups: the named rows part the cells, and their margins are the groups' totals.
use Rattle.std.specs.Prelude.{List, length, ℕ, ◌<◌, ◌↔◌, ◌≡◌}
use Rattle.mb_matrix.specs.Matrix.{Design}
use Rattle.mb_matrix.specs.Measure.{IsMeasureOf, RowMargins, Weighting, numbered_row}
use Rattle.mb_tables.specs.Vectors.{at}

-- each cell's group is one of the named rows, and of these rows exactly this one has a 1 there
abbrev pub GroupsPartTheCells : Type 0
GroupsPartTheCells =
    (matrix : Design) (measure : Weighting) → IsMeasureOf matrix measure →
    (rows : List ℕ) → measure.scale ≡ RowMargins rows →
    (cell : ℕ) → cell < length matrix.columns →
    (at measure.groups cell < length rows)
    × ((k : ℕ) → k < length rows →
    (at (numbered_row matrix (at rows k)) cell ≡ 1) ↔ (at measure.groups cell ≡ k))
