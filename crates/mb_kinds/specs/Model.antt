-- Log-linear models.
use Rattle.mb_matrix.specs.Matrix.{Design, IsDesign}
use Rattle.mb_matrix.specs.Measure.{IsMeasureOf, Weighting}

-- a design matrix, and a scale and a base measure on it
pub record ModelValue : Type 0 where
  pub matrix : Design
  pub measure : Weighting

-- a design matrix with a measure that meets the rules of measures on it
pub record IsModel (model : ModelValue) : Type 0 where
  pub design : IsDesign model.matrix
  pub weighted : IsMeasureOf model.matrix model.measure
