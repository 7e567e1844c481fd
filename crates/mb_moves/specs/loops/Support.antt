-- A margin of a move from the cells where the move isn't 0.
use Rattle.std.specs.Prelude.{List, [], if◌then◌else◌, pos, slice_index_or, ℕ, ℤ, ◌*ℤ◌, ◌+ℤ◌, ◌+◌, ◌==◌, ◌∷◌}
use Rattle.std.specs.Int.RustNames.{unsigned_abs}

-- the cells where a move isn't 0, in order; its first entry belongs to the given cell
unfoldable pub support : ℕ → List ℤ → List ℕ
support cell [] = []
support cell (z ∷ move) =
    if unsigned_abs z == 0 then support (cell + 1) move else cell ∷ support (cell + 1) move

-- the products at these cells, added up
unfoldable pub cells_margin : List ℤ → List ℤ → List ℕ → ℤ
cells_margin row move [] = pos 0
cells_margin row move (cell ∷ cells) =
    (slice_index_or row cell (pos 0) *ℤ slice_index_or move cell (pos 0))
    +ℤ cells_margin row move cells
