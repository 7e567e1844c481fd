-- The keys of tables that a walk claims.
use Rattle.std.specs.Prelude.{List, ℕ, ◌↔◌, ◌≡◌}
use Rattle.mb_claims.specs.Lists.{AreDistinctKeys}
use Rattle.mb_matrix.specs.Key.{key_of}
use Rattle.mb_matrix.specs.declared.digit.Digit.{Digit}
use Rattle.mb_tables.specs.Lists.{In}

-- the key is that of a table of which the fact holds
abbrev pub IsKeyOf : List Digit → (List ℕ → Type 0) → ℕ → Type 0
IsKeyOf digits Holds key = (v : List ℕ) × Holds v × (key ≡ key_of digits v)

-- the keys are those of the tables, each once
pub record AreKeysOf (digits : List Digit) (tables : List (List ℕ)) (keys : List ℕ) : Type 0 where
  pub once : AreDistinctKeys keys
  pub each : (key : ℕ) → In key keys ↔ IsKeyOf digits (λ v. In v tables) key
