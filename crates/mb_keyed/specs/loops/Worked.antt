-- What workers do with the tables of a ring: each claims the keys of the tables one step away.
use Rattle.std.specs.List.{flat_map}
use Rattle.std.specs.Prelude.{List, [], false, length, map, reverse, ℕ, ℤ, ◌≡◌, ◌≢◌, ◌⊎◌, ◌↔◌}
use Rattle.mb_claims.specs.Claims.{IsPassOf, ShardWords}
use Rattle.mb_claims.specs.Notes.{IsNoted, Keeps}
use Rattle.mb_claims.specs.declared.views.Note.{Note}
use Rattle.mb_keyed.specs.declared.ranked.Ranked.{Ranked}
use Rattle.mb_keyed.specs.declared.worker.Worker.{Worker}
use Rattle.mb_matrix.specs.Key.{Suits}
use Rattle.mb_matrix.specs.declared.digit.Digit.{Digit}
use Rattle.mb_tables.specs.Counts.{AreCounts}
use Rattle.mb_tables.specs.Lists.{In}
use Rattle.mb_tables.specs.Step.{OneApart}

-- a table has a key, and its counts fit 32 bits
pub record IsKeyed (digits : List Digit) (v : List ℕ) : Type 0 where
  pub suits : Suits digits v
  pub fits : AreCounts v

-- a table has as many cells as the moves, and it and what each step makes of it have keys
pub record HasKeyedSteps (digits : List Digit) (width : ℕ) (moves : List (List ℤ)) (u : List ℕ)
    : Type 0 where
  pub cells : length u ≡ width
  pub suits : Suits digits u
  pub steps : (v : List ℕ) → OneApart moves u v → IsKeyed digits v

-- the keys of a list with ranks
abbrev pub keys_in : List Ranked → List ℕ
keys_in found = map (λ r. r.key) found

-- a list gains exactly the sought keys
abbrev pub Gains : (ℕ → Type 0) → List Ranked → List Ranked → Type 0
Gains IsSought before after =
    (key : ℕ) → In key (keys_in after) ↔ (In key (keys_in before) ⊎ IsSought key)

-- a worker claimed the sought keys: it won no others; each is noted unless something is left; and
-- its list has the keys that it won, the last at the end, unless it is short of memory
pub record Claims (IsSought : ℕ → Type 0) (before after : Worker) : Type 0 where
  pub number : after.pass.knows.number ≡ before.pass.knows.number
  pub notes : Keeps before.pass.knows.notes after.pass.knows.notes
  pub won : (key : ℕ) → In key after.pass.knows.won →
      In key before.pass.knows.won ⊎ IsSought key
  pub told : after.is_left ≡ false → (before.is_left ≡ false)
      × ((key : ℕ) → IsSought key → IsNoted after.pass.knows.notes key)
  pub listed : after.is_short ≡ false → (before.is_short ≡ false)
      × (reverse (keys_in before.found.items) ≡ before.pass.knows.won →
      reverse (keys_in after.found.items) ≡ after.pass.knows.won)

-- each key of a cache is noted; 0 is none
abbrev pub AreCached : List Note → List ℕ → Type 0
AreCached notes cache = (key : ℕ) → In key cache → key ≢ 0 → IsNoted notes key

-- of some keys, those that a cache doesn't have are listed, and maybe others of them
pub record AreUnknown (cache keys unknown : List ℕ) : Type 0 where
  pub only : (key : ℕ) → In key unknown → In key keys
  pub known : (key : ℕ) → In key keys → In key cache ⊎ In key unknown

-- the worker's pass belongs to the shards, and the keys of its cache are known to the pass
abbrev pub IsWorkerOf : ShardWords → Worker → Type 0
IsWorkerOf shards worker =
    IsPassOf shards worker.pass × AreCached worker.pass.knows.notes worker.cache

-- the worker has claimed nothing yet
pub record IsIdle (worker : Worker) : Type 0 where
  pub won : worker.pass.knows.won ≡ []
  pub notes : worker.pass.knows.notes ≡ []
  pub found : worker.found.items ≡ []

-- the numbers of the workers' passes
abbrev pub numbers : List Worker → List ℕ
numbers workers = map (λ worker. worker.pass.knows.number) workers

-- the keys that the workers won
abbrev pub keys_won : List Worker → List ℕ
keys_won workers = flat_map (λ worker. worker.pass.knows.won) workers

-- the notes that the workers made
abbrev pub notes_made : List Worker → List Note
notes_made workers = flat_map (λ worker. worker.pass.knows.notes) workers
