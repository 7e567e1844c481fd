-- The laws of the text: which texts are accepted, why the others aren't, and that the written
-- form is.
use Rattle.std.specs.Prelude.{Err, List, Ok, Some, length, map, pos, ℕ, ◌↔◌, ◌∷◌, ◌≡◌}
use Rattle.std.specs.List.{flat_map}
use Rattle.mb_tables.specs.Limits.{most_cells, most_moves}
use Rattle.mb_tables.specs.Rows.{AreRows, Rows}
use Rattle.mb_text.specs.Numerals.{number_of}
use Rattle.mb_moves.specs.FirstFault.{IsFirstFault}
use Rattle.mb_moves.specs.GridText.{array_in, matrix_of, moves_of}
use Rattle.mb_moves.specs.Written.{written}
use Rattle.mb_moves.specs.declared.fault.GridFault.{GridFault}

-- the numbers of the tokens are the two sizes and the entries row by row, and no token is more
abbrev pub Says : List (List ℕ) → Rows → Type 0
Says tokens array =
    map number_of tokens
    ≡ map Some (pos (length array.rows) ∷ pos array.width ∷ flat_map (λ row. row) array.rows)

-- tokens are accepted exactly where they are the numbers of an array within the limits
abbrev pub AcceptedExactly : Type 0
AcceptedExactly =
    (lowest highest : ℕ) (tokens : List (List ℕ)) (array : Rows) →
    (array_in lowest highest tokens ≡ Ok array)
    ↔ (AreRows lowest highest array × Says tokens array)

-- and each refusal is the first fault of the tokens
abbrev pub RefusedExactly : Type 0
RefusedExactly =
    (lowest highest : ℕ) (tokens : List (List ℕ)) (fault : GridFault) →
    (array_in lowest highest tokens ≡ Err fault) ↔ IsFirstFault lowest highest tokens fault

-- the written form is accepted, and says what was written
pub record WrittenIsRead : Type 0 where
  pub matrix : (array : Rows) → AreRows 1 most_cells array → matrix_of (written array) ≡ Ok array
  pub moves : (array : Rows) → AreRows 0 most_moves array → moves_of (written array) ≡ Ok array
