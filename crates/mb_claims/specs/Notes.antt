-- Notes: what a pass has seen in the words.
use Rattle.std.specs.Prelude.{List, slice_index, ℕ, ◌+◌, ◌<◌, ◌≢◌}
use Rattle.mb_claims.specs.Probe.{shard_of, start_of}
use Rattle.mb_claims.specs.declared.views.Note.{Note}
use Rattle.mb_tables.specs.Lists.{In}

-- the note of a key at a place
abbrev pub note : ℕ → ℕ → Note
note place key = record { place = place; key = key }

-- some note says that a word holds the key
abbrev pub IsNoted : List Note → ℕ → Type 0
IsNoted notes key = (place : ℕ) × In (note place key) notes

-- some note says that the word at the place holds another key than this one
abbrev pub IsTaken : List Note → ℕ → ℕ → Type 0
IsTaken notes key place = (other : ℕ) × In (note place other) notes × (other ≢ key)

-- notes say that each word of the key's shard holds another key
abbrev pub IsCrowded : List ℕ → ℕ → List Note → Type 0
IsCrowded sizes key notes =
    (word : ℕ) → word < slice_index sizes (shard_of sizes key) →
    IsTaken notes key (start_of sizes (shard_of sizes key) + word)

-- no note is lost
abbrev pub Keeps : List Note → List Note → Type 0
Keeps before after = (n : Note) → In n before → In n after
