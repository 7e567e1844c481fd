-- The graph of a fiber under moves, in which two tables are joined where a move takes one to the
-- other (Diaconis and Sturmfels 1998), by the keys of its tables.
use Rattle.std.specs.Prelude.{List, ℕ}
use Rattle.mb_keyed.specs.loops.Keyed.{FiberAt, digits_in}
use Rattle.mb_keyed.specs.loops.Worked.{HasKeyedSteps}
use Rattle.mb_rings.specs.Claimed.{IsKeyOf}
use Rattle.mb_rings.specs.Ring.{Ring}
use Rattle.mb_tables.specs.Lists.{In}
use Rattle.mb_tables.specs.Rows.{Rows}
use Rattle.mb_tables.specs.Step.{IsNear}

-- a fiber, and moves
pub record Graph : Type 0 where
  pub fiber : FiberAt
  pub moves : Rows

-- the key of a table that P holds of
abbrev pub IsKeyIn : Graph → (List ℕ → Type 0) → ℕ → Type 0
IsKeyIn graph P key = IsKeyOf (digits_in graph.fiber) P key

-- the key of a table one step from some tables
abbrev pub IsKeyNear : Graph → Ring → ℕ → Type 0
IsKeyNear graph ring key = IsKeyIn graph (IsNear graph.moves.rows ring) key

-- some tables have keys, and so has what each step makes of them
abbrev pub AreKeyed : Graph → Ring → Type 0
AreKeyed graph ring =
    (u : List ℕ) → In u ring →
    HasKeyedSteps (digits_in graph.fiber) graph.moves.width graph.moves.rows u
