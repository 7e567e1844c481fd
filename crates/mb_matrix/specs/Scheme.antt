-- The sampling scheme that a scale of the program is.
use Rattle.mb_matrix.specs.Measure.{RowMargins, Scheme, Total}
use Rattle.mb_matrix.specs.declared.scale.Scale.{Scale}
use Rattle.mb_matrix.specs.declared.scale.Scale.TheVariants.{All, Rows}

-- the margins that it fixes
abbrev pub scheme_of : Scale → Scheme
scheme_of All = Total
scheme_of (Rows rows) = RowMargins rows.items
