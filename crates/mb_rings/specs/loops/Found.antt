-- What a search among the tables one step away adds to the visited ones.
use Rattle.std.specs.Cmp.Lexicographic.{pointwise}
use Rattle.std.specs.List.{IsDistinct}
use Rattle.std.specs.List.Sorted.{IsPermutation}
use Rattle.std.specs.Prelude.{List, length, nat_eq, ℕ, ◌++◌, ◌+◌, ◌<◌, ◌≡◌}
use Rattle.mb_rings.specs.declared.fault.WalkFault.{WalkFault}
use Rattle.mb_rings.specs.declared.fault.WalkFault.TheVariants.{OutOfMemory, TooLarge}
use Rattle.mb_tables.specs.Counts.{AreCounts}
use Rattle.mb_tables.specs.Lists.{In}

-- no table stands twice in the list
abbrev pub AreDistinct : List (List ℕ) → Type 0
AreDistinct list = IsDistinct (pointwise nat_eq) list

-- a search among the sought tables adds those found, which are new, each once, to the visited
-- ones; when it ends, all sought tables of 32-bit counts are visited
pub record Finds (IsSought : List ℕ → Type 0) (before after found : List (List ℕ)) : Type 0 where
  pub visited : IsPermutation (before ++ found) after
  pub sought : (v : List ℕ) → In v found → IsSought v
  pub new : (v : List ℕ) → In v found → In v before → ⊥
  pub once : AreDistinct found
  pub all : (v : List ℕ) → IsSought v → AreCounts v → In v after

-- the same, with the tables found at the end of a list
pub record FindsMore (IsSought : List ℕ → Type 0) (before after old new : List (List ℕ))
    : Type 0 where
  pub found : List (List ℕ)
  pub listed : new ≡ old ++ found
  pub finds : Finds IsSought before after found

-- new tables among those sought that with the visited ones are more than the limit
pub record Exceeds (IsSought : List ℕ → Type 0) (limit : ℕ) (before found : List (List ℕ))
    : Type 0 where
  pub distinct : AreDistinct (before ++ found)
  pub sought : (v : List ℕ) → In v found → IsSought v
  pub many : limit < length (before ++ found)

-- the cause of each refusal of a search: there are such tables; want of memory is free
abbrev pub IsSearchFault : (List ℕ → Type 0) → ℕ → List (List ℕ) → WalkFault → Type 0
IsSearchFault IsSought limit before (TooLarge seen) =
    (seen ≡ limit + 1) × (found : List (List ℕ)) × Exceeds IsSought limit before found
IsSearchFault IsSought limit before OutOfMemory = Unit {0}
