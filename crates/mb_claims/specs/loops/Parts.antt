-- How the program keeps the sizes of shards.
use Rattle.std.specs.Prelude.{List, length, slice_index, sum, ℕ, ◌*◌, ◌<◌, ◌≡◌, ◌≤◌}
use Rattle.atomic_table.specs.Seated.{TableId}
use Rattle.mb_claims.specs.Limits.{most_shards, most_words}
use Rattle.mb_claims.specs.Probe.{start_of}

-- the sizes of 1 to 64 shards, each of which has a word, and grew once past the most words of a new
-- one at most
pub record AreSizes (sizes : List ℕ) : Type 0 where
  pub some : 1 ≤ length sizes
  pub few : length sizes ≤ most_shards
  pub each : (shard : ℕ) → shard < length sizes →
      (1 ≤ slice_index sizes shard) × (slice_index sizes shard ≤ 2 * most_words)

-- the first word of each shard
pub record AreStarts (sizes starts : List ℕ) : Type 0 where
  pub count : length starts ≡ length sizes
  pub each : (shard : ℕ) → shard < length sizes → slice_index starts shard ≡ start_of sizes shard

-- a table of words without slots, whose rule has these sizes, as many words as they add up to, and
-- the first word of each shard
pub record AreShardParts (table : TableId) (ruled sizes starts : List ℕ) : Type 0 where
  pub no_slots : table.slots ≡ 0
  pub same : ruled ≡ sizes
  pub total : table.words ≡ sum sizes
  pub fit : AreSizes sizes
  pub first : AreStarts sizes starts
