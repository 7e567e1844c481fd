-- Rings of the fiber graph: the tables at each distance from a start.
use Rattle.std.specs.List.{filter, flat_map, take_while}
use Rattle.std.specs.Prelude.{Bool, List, [], false, length, not, suc, true, zero, ℕ, ℤ, ◌&&◌, ◌++◌, ◌∷◌}
use Rattle.mb_matrix.specs.Matrix.{Design, fiber_of}
use Rattle.mb_tables.specs.Lists.{stands_in}
use Rattle.mb_tables.specs.Step.{is_near}

-- a ring is a list of tables
abbrev pub Ring : Type 0
Ring = List (List ℕ)

-- all tables of the rings, ring after ring
abbrev pub tables_of : List Ring → List (List ℕ)
tables_of rings = flat_map (λ ring. ring) rings

-- the last of the rings
unfoldable pub last_ring : List Ring → Ring
last_ring [] = []
last_ring (ring ∷ []) = ring
last_ring (ring ∷ second ∷ rings) = last_ring (second ∷ rings)

-- whether a ring has a table
abbrev pub is_filled : Ring → Bool
is_filled [] = false
is_filled (u ∷ ring) = true

-- the ring that follows these: in the fiber's order, the tables that are one step from a table
-- of the last ring and stand in none of the rings
unfoldable pub next_ring : Ring → List (List ℤ) → List Ring → Ring
next_ring fiber moves rings =
    filter (λ v. is_near moves (last_ring rings) v && not (stands_in (tables_of rings) v)) fiber

-- the rings, and the one that follows them
unfoldable pub with_next : Ring → List (List ℤ) → List Ring → List Ring
with_next fiber moves rings = rings ++ next_ring fiber moves rings ∷ []

-- rings 0 to k, of which ring 0 is the start alone; any other may be empty
unfoldable pub rings_to : Ring → List (List ℤ) → List ℕ → ℕ → List Ring
rings_to fiber moves start zero = (start ∷ []) ∷ []
rings_to fiber moves start (suc k) = with_next fiber moves (rings_to fiber moves start k)

-- the rings that a start has within a fiber: they end before the first empty one
unfoldable pub rings_within : Ring → List (List ℤ) → List ℕ → List Ring
rings_within fiber moves start =
    take_while is_filled (rings_to fiber moves start (length fiber))

-- the rings of a start: of the tables of its fiber
abbrev pub rings_of : Design → List (List ℤ) → List ℕ → List Ring
rings_of matrix moves start = rings_within (fiber_of matrix start) moves start

-- the tables that the moves reach from the start
abbrev pub reached : Design → List (List ℤ) → List ℕ → List (List ℕ)
reached matrix moves start = tables_of (rings_of matrix moves start)
