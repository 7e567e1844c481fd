-- What contracts see of shards, of a root and of a pass, and the answers of a claim.
use Rattle.std.specs.Prelude.{List, [], map, max, slice_index, slice_set, ℕ, ◌*◌, ◌∷◌, ◌≡◌}
use Rattle.atomic_table.specs.Seated.{TableId}
use Rattle.mb_claims.specs.Notes.{IsCrowded, IsNoted}
use Rattle.mb_claims.specs.Probe.{shard_of}
use Rattle.mb_claims.specs.declared.claim.Claim.{Claim}
use Rattle.mb_claims.specs.declared.claim.Claim.TheVariants.{Full, New, Seen}
use Rattle.mb_claims.specs.declared.views.PassView.{PassView}
use Rattle.mb_claims.specs.declared.views.RootView.{RootView}

-- shards: which table of words they are, and the number of words of each
pub record ShardWords : Type 0 where
  pub table : TableId
  pub sizes : List ℕ

-- a root: the table of words that it belongs to, and what it knows
pub record RootSeat : Type 0 where
  pub table : TableId
  pub knows : RootView

-- a pass: the table of words that it belongs to, and what it knows
pub record PassSeat : Type 0 where
  pub table : TableId
  pub knows : PassView

-- the root belongs to the shards
abbrev pub IsRootOf : ShardWords → RootSeat → Type 0
IsRootOf shards root = (root.table ≡ shards.table) × (root.knows.sizes ≡ shards.sizes)

-- the pass belongs to the shards
abbrev pub IsPassOf : ShardWords → PassSeat → Type 0
IsPassOf shards pass = (pass.table ≡ shards.table) × (pass.knows.sizes ≡ shards.sizes)

-- a root that has opened no pass and gathered nothing
abbrev pub IsNewRoot : RootView → Type 0
IsNewRoot root = (root.opened ≡ []) × (root.gathered ≡ []) × (root.notes ≡ [])

-- the sizes, of which one is doubled
abbrev pub doubled : List ℕ → ℕ → List ℕ
doubled sizes shard = slice_set sizes shard (2 * slice_index sizes shard)

-- the sizes, each of them at least so many words
abbrev pub widened : ℕ → List ℕ → List ℕ
widened words sizes = map (max words) sizes

-- the answer to a claim of the key, by what the pass knew before and knows after: New where it won
-- the key; Seen where it has a note of it; Full where each word of the key's shard holds another
abbrev pub Answers : List ℕ → ℕ → PassView → PassView → Claim → Type 0
Answers sizes key before after New = (after.won ≡ key ∷ before.won) × IsNoted after.notes key
Answers sizes key before after Seen = (after.won ≡ before.won) × IsNoted after.notes key
Answers sizes key before after (Full shard) =
    (after.won ≡ before.won) × (shard ≡ shard_of sizes key) × IsCrowded sizes key after.notes
