-- The limits of shards.
use Rattle.std.specs.Prelude.{ℕ}

-- the most shards of a set
abbrev pub most_shards : ℕ
most_shards = 64

-- the most words of a new shard, and of one that grows
abbrev pub most_words : ℕ
most_words = 2097152
