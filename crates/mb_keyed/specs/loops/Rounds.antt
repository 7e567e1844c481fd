-- A round of workers over a ring: what all of them do together.
use Rattle.std.specs.Prelude.{All, List, false, reverse, ℕ, ℤ, ◌++◌, ◌<◌, ◌≡◌, ◌≤◌, ◌⊎◌}
use Rattle.mb_claims.specs.Lists.{AreDistinctKeys}
use Rattle.mb_claims.specs.Notes.{IsNoted}
use Rattle.mb_keyed.specs.declared.gathered.Left.{Left}
use Rattle.mb_keyed.specs.declared.worker.Worker.{Worker}
use Rattle.mb_keyed.specs.loops.Worked.{keys_in, keys_won, notes_made}
use Rattle.mb_rings.specs.Ring.{Ring}
use Rattle.mb_rings.specs.Share.{share_of}
use Rattle.mb_tables.specs.Lists.{In}
use Rattle.mb_tables.specs.Step.{IsNear}

-- of n passes, share w falls to pass i: to the pass of its number, and to pass 0 where there is
-- none
abbrev pub FallsTo : ℕ → ℕ → ℕ → Type 0
FallsTo n i w = (w ≡ i) ⊎ ((i ≡ 0) × (n ≤ w))

-- v is one step from a table of share w among k, which falls to pass i of n
abbrev pub IsNearShare : List (List ℤ) → Ring → ℕ → ℕ → ℕ → ℕ → List ℕ → Type 0
IsNearShare moves ring k n i w v = FallsTo n i w × IsNear moves (share_of ring w k) v

-- v is one step from a table of such a share before share `end`
abbrev pub IsNearBefore : List (List ℤ) → Ring → ℕ → ℕ → ℕ → ℕ → List ℕ → Type 0
IsNearBefore moves ring k n i end v = (w : ℕ) × (w < end) × IsNearShare moves ring k n i w v

-- the worker's list has the keys that it won, unless it is short of memory
abbrev pub IsListed : Worker → Type 0
IsListed worker =
    worker.is_short ≡ false → reverse (keys_in worker.found.items) ≡ worker.pass.knows.won

-- the workers claimed the sought keys, and each listed those that it won
pub record AreWorked (IsSought : ℕ → Type 0) (workers : List Worker) : Type 0 where
  pub won : (key : ℕ) → In key (keys_won workers) → IsSought key
  pub told : All (λ worker. worker.is_left ≡ false) workers →
      (key : ℕ) → IsSought key → IsNoted (notes_made workers) key
  pub listed : All IsListed workers

-- a round claims the sought keys: the gathered keys, each of which is gathered once, are those
-- before and the won ones, which are sought and, unless memory was wanting, join a list; unless
-- something is left, all sought keys are gathered
pub record IsRound (IsSought : ℕ → Type 0) (before after old new : List ℕ) (left : Left)
    : Type 0 where
  pub won : List ℕ
  pub gathered : after ≡ won ++ before
  pub once : AreDistinctKeys after
  pub sought : (key : ℕ) → In key won → IsSought key
  pub listed : left.is_short ≡ false → new ≡ old ++ reverse won
  pub told : left.is_left ≡ false → (key : ℕ) → IsSought key → In key after
