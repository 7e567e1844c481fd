-- Shards of words, and the probe path of a key: open addressing with linear probing (Knuth, The
-- Art of Computer Programming 3, 6.4). The shards stand one after the other in one table of words.
-- A word is 0 or a key.
use Rattle.std.specs.Prelude.{List, length, slice_index, sum, take, ℕ, ◌%◌, ◌+◌, ◌/◌, ◌<◌, ◌≡◌, ◌≢◌}

-- the shard of a key
abbrev pub shard_of : List ℕ → ℕ → ℕ
shard_of sizes key = key % length sizes

-- the first word of a shard
abbrev pub start_of : List ℕ → ℕ → ℕ
start_of sizes shard = sum (take shard sizes)

-- the word that is so many steps along the probe path of a key, which goes once around the words
-- of the key's shard
abbrev pub probe : List ℕ → ℕ → ℕ → ℕ
probe sizes key steps =
    start_of sizes (shard_of sizes key)
    + (key / length sizes + steps) % slice_index sizes (shard_of sizes key)

-- the word at the place holds the key
pub record Holds (words : List ℕ) (place key : ℕ) : Type 0 where
  pub within : place < length words
  pub key_is : key ≢ 0
  pub word : slice_index words place ≡ key

-- the place is on the key's probe path, and no word before it on the path is 0: a search along the
-- path comes to it
pub record IsReached (sizes words : List ℕ) (key place : ℕ) : Type 0 where
  pub steps : ℕ
  pub short : steps < slice_index sizes (shard_of sizes key)
  pub there : place ≡ probe sizes key steps
  pub filled : (before : ℕ) → before < steps → slice_index words (probe sizes key before) ≢ 0
