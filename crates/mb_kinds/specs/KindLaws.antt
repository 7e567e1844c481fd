-- Laws of the kinds of models.
use Rattle.std.specs.Prelude.{All, List, Ok, Option, length, ℕ, ◌<◌, ◌^◌, ◌≡◌}
use Rattle.mb_data.specs.CrossTable.{CrossTable, counts}
use Rattle.mb_kinds.specs.Kinds.{model_of, named_model, pairs_of, rasch_model}
use Rattle.mb_kinds.specs.Model.{IsModel, ModelValue}

-- the Rasch model on three factors, where there is one, is the hierarchical model of their three
-- pairs: it has the same matrix and the same measure
abbrev pub RaschIsHierarchical : Type 0
RaschIsHierarchical =
    (table : CrossTable) (person item response : List ℕ) (base : Option (List ℕ))
    (model : ModelValue) → rasch_model table person item response base ≡ Ok model →
    named_model table (pairs_of person item response) base ≡ Ok model

-- a model over so many cells, with a column for each; its base numbers fit 32 bits
pub record IsModelOver (cells : ℕ) (model : ModelValue) : Type 0 where
  pub sound : IsModel model
  pub fits : All (λ number. number < 2 ^ 32) model.measure.bases
  pub many : length model.matrix.columns ≡ cells

-- what a model file says on a dataset is a model over its cells
abbrev pub ReadModelIsSound : Type 0
ReadModelIsSound =
    (text : List ℕ) (matrix : Option (List ℕ)) (table : CrossTable) (model : ModelValue) →
    model_of text matrix table ≡ Ok model → IsModelOver (length (counts table.entries)) model
