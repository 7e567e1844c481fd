-- The record of a model, and its written form.
use Rattle.std.specs.Fmt.{decimal}
use Rattle.std.specs.List.{flat_map}
use Rattle.std.specs.Prelude.{All, List, [], codes, length, map, ℕ, ◌++◌, ◌<◌, ◌^◌, ◌∷◌}
use Rattle.mb_kinds.specs.Model.{IsModel, ModelValue}
use Rattle.mb_matrix.specs.Measure.{RowMargins, Scheme, Total}
use Rattle.mb_text.specs.Lines.{line}
use Rattle.mb_text.specs.Name.{IsName}
use Rattle.mb_moves.specs.Written.{row_lines}

-- a model, and the name of its dataset
pub record ModelRecord : Type 0 where
  pub dataset : List ℕ
  pub model : ModelValue

-- a name and a model whose base numbers fit 32 bits
pub record IsModelRecord (entry : ModelRecord) : Type 0 where
  pub named : IsName entry.dataset
  pub sound : IsModel entry.model
  pub fits : All (λ number. number < 2 ^ 32) entry.model.measure.bases

-- the items of the lines that begin a record
abbrev pub head_lines : ModelRecord → List (List (List ℕ))
head_lines entry =
    (codes "model" ∷ codes "1" ∷ [])
    ∷ (codes "dataset" ∷ entry.dataset ∷ [])
    ∷ (codes "matrix" ∷ decimal entry.model.matrix.rows
    ∷ decimal (length entry.model.matrix.columns) ∷ [])
    ∷ []

-- those of the scale
abbrev pub scale_items : Scheme → List (List ℕ)
scale_items Total = codes "scale" ∷ codes "all" ∷ []
scale_items (RowMargins rows) = codes "scale" ∷ codes "rows" ∷ map decimal rows

-- those of the base, one number a cell
abbrev pub base_items : List ℕ → List (List ℕ)
base_items bases = codes "base" ∷ map decimal bases

-- those of all lines
abbrev pub record_lines : ModelRecord → List (List (List ℕ))
record_lines entry =
    head_lines entry
    ++ row_lines entry.model.matrix
    ++ (scale_items entry.model.measure.scale ∷ base_items entry.model.measure.bases
    ∷ (codes "end" ∷ []) ∷ [])

-- the one text that a record is written as
unfoldable pub written_record : ModelRecord → List ℕ
written_record entry = flat_map line (record_lines entry)
