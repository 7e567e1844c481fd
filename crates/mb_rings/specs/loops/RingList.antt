-- The rings as the program keeps them.
use Rattle.std.specs.Prelude.{List, Vec, length, map, ℕ, ◌<◌, ◌^◌, ◌≡◌}
use Rattle.std.specs.declared.alloc.Global.{Global}
use Rattle.mb_rings.specs.Ring.{Ring, tables_of}

-- the lists of tables that some vectors keep
abbrev pub listed : List (Vec (List ℕ) Global) → List Ring
listed rings = map (λ ring. ring.items) rings

-- so many tables stand in the rings, and the number of rings fits 32 bits
pub record AreCounted (total : ℕ) (rings : List Ring) : Type 0 where
  pub tables : total ≡ length (tables_of rings)
  pub few : length rings < 2 ^ 32
