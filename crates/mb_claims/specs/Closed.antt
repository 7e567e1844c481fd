-- What a root knows where no pass is open.
use Rattle.std.specs.Prelude.{[], slice_index, ◌+◌, ◌<◌, ◌≡◌, ◌≤◌}
use Rattle.mb_claims.specs.Lists.{AreDistinctKeys}
use Rattle.mb_claims.specs.Probe.{shard_of, start_of}
use Rattle.mb_claims.specs.declared.views.Note.{Note}
use Rattle.mb_claims.specs.declared.views.RootView.{RootView}
use Rattle.mb_tables.specs.Lists.{In}

-- the note is of a word in its key's own shard
pub record IsAtHome (root : RootView) (note : Note) : Type 0 where
  pub low : start_of root.sizes (shard_of root.sizes note.key) ≤ note.place
  pub high :
      note.place < start_of root.sizes (shard_of root.sizes note.key)
      + slice_index root.sizes (shard_of root.sizes note.key)

-- no key is gathered twice; each note is of a gathered key and of a word in the key's own shard; no
-- key is noted at two places
pub record IsClosed (root : RootView) : Type 0 where
  pub once : AreDistinctKeys root.gathered
  pub keys : In 0 root.gathered → ⊥
  pub gathered : (note : Note) → In note root.notes → In note.key root.gathered
  pub home : (note : Note) → In note root.notes → IsAtHome root note
  pub apart :
      (note other : Note) → In note root.notes → In other root.notes → note.key ≡ other.key →
      note.place ≡ other.place

-- a root with no open pass has gathered all that it knows
abbrev pub ClosesAll : RootView → Type 0
ClosesAll root = root.opened ≡ [] → IsClosed root
