-- What one read of a reader appends to a body, where the reader's bytes are known.
use Rattle.std.specs.Prelude.{◌≡◌, ℕ, ◌+◌, ◌<◌, List, ◌++◌, length, Option, Bool, IsTrue}
use Rattle.std.specs.Io.KnownBytes.{Consumes, IsAtEnd}
use Rattle.mb_outside.specs.Files.{longest_file}

-- the body grew by the bytes that the reader gave, which at the end has none left
pub record TakesPiece (before after : Option (List ℕ)) (old new : List ℕ) (ended : Bool)
    : Type 0 where
  pub bytes : List ℕ
  pub grown : new ≡ old ++ bytes
  pub given : Consumes before after bytes
  pub last : IsTrue ended → IsAtEnd after

-- the reader gave bytes with which the body would be longer than a file may be
pub record PassesLimit (before after : Option (List ℕ)) (body : List ℕ) : Type 0 where
  pub bytes : List ℕ
  pub given : Consumes before after bytes
  pub longer : longest_file < length body + length bytes
