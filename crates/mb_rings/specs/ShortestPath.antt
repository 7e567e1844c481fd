-- Shortest paths in the fiber graph, as lists of signed numbers of moves.
use Rattle.std.specs.Cmp.Lexicographic.{slice_cmp}
use Rattle.std.specs.Ordering.{nat_cmp}
use Rattle.std.specs.Prelude.{List, length, map, negsuc, pos, ℕ, ℤ, ◌*◌, ◌+◌, ◌∷◌, ◌≡◌}
use Rattle.std.specs.declared.cmp.Ordering.{Ordering}
use Rattle.std.specs.declared.cmp.Ordering.TheVariants.{Less}
use Rattle.mb_certificate.specs.Valid.{Walks}

-- the turn of a signed number, in the order 1, -1, 2, -2, ..: a move's is after those of the moves
-- before it, and a move is added before it is subtracted
abbrev pub turn : ℤ → ℕ
turn (pos k) = 2 * k
turn (negsuc k) = 2 * k + 3

-- the length of a path, and then the turns of its steps
abbrev pub path_key : List ℤ → List ℕ
path_key steps = length steps ∷ map turn steps

-- the order of paths: a shorter one comes first, and of two of one length the one with the earlier
-- turn at the first step that differs (shortlex)
abbrev pub path_cmp : List ℤ → List ℤ → Ordering
path_cmp first second = slice_cmp nat_cmp (path_key first) (path_key second)

-- the least path from u to v: it leads there, and none that does comes before it. So it is a
-- shortest one, and of these the lexicographically least
pub record IsLeastPath (moves : List (List ℤ)) (u : List ℕ) (steps : List ℤ) (v : List ℕ)
    : Type 0 where
  pub leads : Walks moves steps u v
  pub least : (other : List ℤ) → Walks moves other u v → path_cmp other steps ≡ Less → ⊥
