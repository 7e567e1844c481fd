-- The fields of a record but the last, each with the comma after it.
use Rattle.std.specs.Prelude.{List, [], ℕ, ◌++◌, ◌∷◌}
use Rattle.csv.specs.Writing.{default_writer, field_text}

-- each field as the default writer writes it, and then a comma (44)
unfoldable pub with_commas : List (List ℕ) → List ℕ
with_commas [] = []
with_commas (field ∷ fields) = field_text default_writer field ++ 44 ∷ with_commas fields
