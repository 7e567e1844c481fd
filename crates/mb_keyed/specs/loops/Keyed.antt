-- The keys that rounds over a ring find.
use Rattle.std.specs.Prelude.{List, length, ℕ, ◌+◌, ◌<◌, ◌≡◌, ◌↔◌, ◌⊎◌}
use Rattle.mb_claims.specs.Lists.{AreDistinctKeys}
use Rattle.mb_matrix.specs.Ascending.{Ascends}
use Rattle.mb_matrix.specs.Key.{digits_of, key_of}
use Rattle.mb_matrix.specs.Matrix.{Design, margins_of}
use Rattle.mb_matrix.specs.Peel.{peel_of}
use Rattle.mb_matrix.specs.declared.digit.Digit.{Digit}
use Rattle.mb_matrix.specs.declared.peel.Peeled.{Peeled}
use Rattle.mb_rings.specs.Claimed.{IsKeyOf}
use Rattle.mb_rings.specs.declared.fault.WalkFault.TheVariants.{OutOfMemory, TooLarge}
use Rattle.mb_rings.specs.declared.fault.WalkFault.{WalkFault}
use Rattle.mb_tables.specs.Counts.{AreCounts}
use Rattle.mb_tables.specs.Lists.{In}

-- distinct sought keys that aren't known
pub record AreNew (IsSought : ℕ → Type 0) (known found : List ℕ) : Type 0 where
  pub once : AreDistinctKeys found
  pub new : (key : ℕ) → In key found → In key known → ⊥
  pub sought : (key : ℕ) → In key found → IsSought key

-- the gathered keys are those known and those found, which are new
pub record AreFound (IsSought : ℕ → Type 0) (known gathered found : List ℕ) : Type 0 where
  pub fresh : AreNew IsSought known found
  pub all : (key : ℕ) → In key gathered ↔ (In key known ⊎ In key found)

-- the cause of each refusal: there are more new keys than there is room for; want of memory is free
abbrev pub IsKeyFault : (ℕ → Type 0) → List ℕ → ℕ → ℕ → WalkFault → Type 0
IsKeyFault IsSought known room limit (TooLarge seen) =
    (seen ≡ limit + 1)
    × (found : List ℕ) × AreNew IsSought known found × (room < length found)
IsKeyFault IsSought known room limit OutOfMemory = Unit {0}

-- a fiber: a matrix, and the margins of its tables
pub record FiberAt : Type 0 where
  pub matrix : Design
  pub margins : List ℕ

-- the fiber of a start
abbrev pub fiber_at : Design → List ℕ → FiberAt
fiber_at matrix start = record { matrix = matrix; margins = margins_of matrix start }

-- the digits of a fiber's keys
abbrev pub digits_in : FiberAt → List Digit
digits_in fiber = digits_of fiber.matrix fiber.margins

-- what the tables of a fiber are read back from their keys with
pub record IsKept (matrix : Design) (steps : List Peeled) (margins : List ℕ) (keys : List Digit)
    : Type 0 where
  pub peel : steps ≡ peel_of matrix
  pub rows : length margins ≡ matrix.rows
  pub digits : keys ≡ digits_of matrix margins

-- a table of a fiber, whose counts fit 32 bits
pub record IsOfFiber (fiber : FiberAt) (v : List ℕ) : Type 0 where
  pub cells : length v ≡ length fiber.matrix.columns
  pub same : margins_of fiber.matrix v ≡ fiber.margins
  pub fits : AreCounts v

-- the next ring, by keys: sought tables whose keys weren't gathered, in ascending order; their keys
-- join the gathered ones, and those of all sought tables are gathered, each once
pub record FindsKeyed (digits : List Digit) (IsSought : List ℕ → Type 0) (before after : List ℕ)
    (next : List (List ℕ)) : Type 0 where
  pub sought : (v : List ℕ) → In v next → IsSought v
  pub new : (v : List ℕ) → In v next → In (key_of digits v) before → ⊥
  pub ascends : Ascends next
  pub once : AreDistinctKeys after
  pub keys : (key : ℕ) → In key after ↔ (In key before ⊎ IsKeyOf digits (λ v. In v next) key)
  pub all : (v : List ℕ) → IsSought v → In (key_of digits v) after
