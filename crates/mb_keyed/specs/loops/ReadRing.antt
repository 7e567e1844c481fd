-- The tables of a ring are read back from their keys.
use Rattle.std.specs.Prelude.{List, [], map, ℕ, ◌≡◌, ◌⊎◌}
use Rattle.mb_keyed.specs.loops.Keyed.{FiberAt, IsOfFiber, digits_in}
use Rattle.mb_matrix.specs.Key.{key_of}
use Rattle.mb_tables.specs.Lists.{In}
use Rattle.mb_tables.specs.Vectors.{at}

-- the tables are those of the fiber with these keys, one by one
pub record AreReadAs (fiber : FiberAt) (order : List ℕ) (tables : List (List ℕ)) : Type 0 where
  pub keys : map (key_of (digits_in fiber)) tables ≡ order
  pub each : (v : List ℕ) → In v tables → IsOfFiber fiber v

-- the table is that of the fiber with the key at place k, unless it has no cells
abbrev pub IsReadAt : FiberAt → List ℕ → ℕ → List ℕ → Type 0
IsReadAt fiber order k table =
    (table ≡ []) ⊎ (IsOfFiber fiber table × (key_of (digits_in fiber) table ≡ at order k))
