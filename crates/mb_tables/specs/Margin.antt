-- The sum that a margin is, over numbers of any size.
use Rattle.std.specs.Prelude.{List, pos, ℕ, ℤ, ◌*ℤ◌, ◌*◌, ◌+ℤ◌, ◌+◌, ◌∷◌}

-- a margin of a table: each count times its entry of the row, added up
unfoldable pub margin : List ℕ → List ℕ → ℕ
margin (entry ∷ row) (count ∷ table) = entry * count + margin row table
margin _ _ = 0

-- a margin of a move: the same sum over whole numbers with a sign
unfoldable pub move_margin : List ℤ → List ℤ → ℤ
move_margin (entry ∷ row) (z ∷ move) = (entry *ℤ z) +ℤ move_margin row move
move_margin _ _ = pos 0
