-- Words that store some keys, and what a pass is told of a key that it claims.
use Rattle.std.specs.Prelude.{List, length, sum, ℕ, ◌↔◌, ◌≡◌, ◌≢◌, ◌⊎◌}
use Rattle.mb_claims.specs.ClaimRule.{AreReached, AreStoredOnce}
use Rattle.mb_claims.specs.Notes.{IsCrowded, IsNoted}
use Rattle.mb_claims.specs.Probe.{Holds}
use Rattle.mb_claims.specs.declared.views.Note.{Note}
use Rattle.mb_tables.specs.Lists.{In}

-- the words store exactly these keys, each once, along its probe path
pub record Stores (sizes words keys : List ℕ) : Type 0 where
  pub total : length words ≡ sum sizes
  pub reached : AreReached sizes words
  pub once : AreStoredOnce words
  pub keys_are : In 0 keys → ⊥
  pub stored : (key : ℕ) → key ≢ 0 → In key keys ↔ ((place : ℕ) × Holds words place key)

-- the pass has a note of the key, or of other keys at all words of its shard
abbrev pub IsTold : List ℕ → ℕ → List Note → Type 0
IsTold sizes key notes = IsNoted notes key ⊎ IsCrowded sizes key notes
