-- The names of a combination of levels as one key.
use Rattle.std.specs.Prelude.{List, [], ℕ, ◌++◌, ◌∷◌}

-- each name, and then a byte (255) that no text has
unfoldable pub key_of : List (List ℕ) → List ℕ
key_of [] = []
key_of (name ∷ names) = name ++ 255 ∷ key_of names
