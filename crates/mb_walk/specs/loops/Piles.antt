-- The walk by tables: owners keep the visited tables, and workers deal new ones into piles.
use Rattle.std.specs.List.Sorted.{IsPermutation}
use Rattle.std.specs.Prelude.{List, Some, [], ◌∷◌, false, length, map, slice_get, ℕ, ◌≡◌, ◌≤◌, ◌⊎◌, ◌+◌, ◌<◌}
use Rattle.mb_rings.specs.Ring.{Ring, tables_of}
use Rattle.mb_rings.specs.loops.Found.{AreDistinct, FindsMore}
use Rattle.mb_rings.specs.declared.fault.WalkFault.{WalkFault}
use Rattle.mb_rings.specs.declared.fault.WalkFault.TheVariants.{OutOfMemory, TooLarge}
use Rattle.mb_tables.specs.Counts.{AreCounts}
use Rattle.mb_tables.specs.Lists.{In}
use Rattle.mb_walk.specs.Owned.{owner_of}
use Rattle.mb_walk.specs.declared.dealer.Dealer.{Dealer}
use Rattle.mb_walk.specs.declared.owner.Owner.{Owner}

-- of n parts, the tables of part j: each stands there once, and has this owner
pub record IsOwned (n j : ℕ) (part : Ring) : Type 0 where
  pub once : AreDistinct part
  pub owned : (v : List ℕ) → In v part → owner_of n v ≡ j

-- each of these is the part of its place, among n
abbrev pub AreOwned : ℕ → List Ring → Type 0
AreOwned n parts = (j : ℕ) (part : Ring) → slice_get parts j ≡ Some part → IsOwned n j part

-- the tables that each owner keeps
abbrev pub kept : List Owner → List Ring
kept owners = map (λ owner. owner.visited) owners

-- those that joined them last
abbrev pub joined : List Owner → List Ring
joined owners = map (λ owner. owner.next.items) owners

-- all tables that are kept
abbrev pub seen_by : List Owner → List (List ℕ)
seen_by owners = tables_of (kept owners)

-- the tables that a worker dealt
abbrev pub dealt_by : Dealer → List (List ℕ)
dealt_by dealer = tables_of dealer.piles.items

-- one pile has a table more
pub record IsPut (j : ℕ) (table : List ℕ) (before after : List Ring) : Type 0 where
  pub part : Ring
  pub was : slice_get before j ≡ Some part
  pub more : Ring
  pub put : IsPermutation (table ∷ part) more
  pub is : slice_get after j ≡ Some more
  pub length : length after ≡ length before
  pub others : (k : ℕ) → (k ≡ j → ⊥) → slice_get after k ≡ slice_get before k

-- a worker's piles, one for each of n owners: so many tables, each once, none of which is known
pub record IsDealer (n room : ℕ) (known : List (List ℕ)) (dealer : Dealer) : Type 0 where
  pub parts : AreOwned n dealer.piles.items
  pub count : dealer.dealt ≡ length (dealt_by dealer)
  pub most : dealer.dealt ≤ room + 1
  pub new : (v : List ℕ) → In v (dealt_by dealer) → In v known → ⊥

-- the worker wants no memory, and has dealt no more tables than there is room for
pub record IsWhole (room : ℕ) (dealer : Dealer) : Type 0 where
  pub long : dealer.is_short ≡ false
  pub few : dealer.dealt ≤ room

-- a worker dealt sought tables; those whose counts fit 32 bits are then known or dealt, where the
-- worker is whole
pub record Deals
    (room : ℕ) (known : List (List ℕ)) (IsSought : List ℕ → Type 0) (before after : Dealer)
    : Type 0 where
  pub sought : (v : List ℕ) → In v (dealt_by after) → In v (dealt_by before) ⊎ IsSought v
  pub kept : (v : List ℕ) → In v (dealt_by before) → In v (dealt_by after)
  pub told : IsWhole room after → IsWhole room before
      × ((v : List ℕ) → IsSought v → AreCounts v → In v known ⊎ In v (dealt_by after))

-- a table that the worker dealt to owner j
abbrev pub IsInPile : ℕ → Dealer → List ℕ → Type 0
IsInPile j dealer v = (pile : Ring) × (slice_get dealer.piles.items j ≡ Some pile) × In v pile

-- a table that some worker dealt to owner j
abbrev pub IsDealt : List Dealer → ℕ → List ℕ → Type 0
IsDealt dealers j v =
    (i : ℕ) × (dealer : Dealer) × (slice_get dealers i ≡ Some dealer) × IsInPile j dealer v

-- an owner added the sought tables that are new, and listed these alone, unless it wants memory
abbrev pub Merges : (List ℕ → Type 0) → Owner → Owner → Type 0
Merges IsSought before after = after.is_short ≡ false →
    FindsMore IsSought before.visited after.visited [] after.next.items

-- a worker that has dealt nothing
pub record IsIdle (dealer : Dealer) : Type 0 where
  pub piles : dealer.piles.items ≡ []
  pub count : dealer.dealt ≡ 0

-- all that a worker dealt is sought; what is sought, with counts that fit 32 bits, is known or
-- dealt, where the worker is whole
pub record HasDealt
    (room : ℕ) (known : List (List ℕ)) (IsSought : List ℕ → Type 0) (dealer : Dealer)
    : Type 0 where
  pub sought : (v : List ℕ) → In v (dealt_by dealer) → IsSought v
  pub told : IsWhole room dealer → (v : List ℕ) → IsSought v → AreCounts v →
      In v known ⊎ In v (dealt_by dealer)

-- some worker dealt the table
pub record IsDealtBy (dealers : List Dealer) (v : List ℕ) : Type 0 where
  pub place : ℕ
  pub dealer : Dealer
  pub is : slice_get dealers place ≡ Some dealer
  pub has : In v (dealt_by dealer)

-- each worker dealt each table to its owner, among n
abbrev pub ArePiles : ℕ → List Dealer → Type 0
ArePiles n dealers = (i : ℕ) (dealer : Dealer) → slice_get dealers i ≡ Some dealer →
    AreOwned n dealer.piles.items

-- the workers dealt sought tables that aren't known, each to its owner, among n; all that are
-- sought, with counts that fit 32 bits, are known or dealt
pub record AreDealt
    (n : ℕ) (known : List (List ℕ)) (IsSought : List ℕ → Type 0) (dealers : List Dealer)
    : Type 0 where
  pub piles : ArePiles n dealers
  pub sought : (v : List ℕ) → IsDealtBy dealers v → IsSought v
  pub new : (v : List ℕ) → IsDealtBy dealers v → In v known → ⊥
  pub all : (v : List ℕ) → IsSought v → AreCounts v → In v known ⊎ IsDealtBy dealers v

-- why some worker isn't whole: it has dealt more than there is room for; want of memory is free
abbrev pub IsOver : ℕ → ℕ → List Dealer → WalkFault → Type 0
IsOver room limit dealers (TooLarge seen) =
    (seen ≡ limit + 1) × (i : ℕ) × (dealer : Dealer) × (slice_get dealers i ≡ Some dealer)
    × (room < dealer.dealt)
IsOver room limit dealers OutOfMemory = Unit {0}
