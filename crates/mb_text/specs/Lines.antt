-- A text as lines, and a line as items.
use Rattle.std.specs.Prelude.{List, [], ℕ, ◌++◌, ◌==◌, ◌∷◌}
use Rattle.std.specs.List.{join_with_byte, slice_split}

-- the pieces of a text between the bytes of one value: one more than there are such bytes
abbrev pub pieces : ℕ → List ℕ → List (List ℕ)
pieces byte text = slice_split (λ b. b == byte) text

-- the lines of a text that ends with a line end (10), and then one empty piece; where the text
-- ends otherwise, its last piece is no line
abbrev pub lines : List ℕ → List (List ℕ)
lines text = pieces 10 text

-- the items of a line, between its spaces (32): an empty one where a space is needless
abbrev pub items : List ℕ → List (List ℕ)
items line = pieces 32 line

-- items as a line: one space between each two, and a line end
unfoldable pub line : List (List ℕ) → List ℕ
line items = join_with_byte 32 items ++ 10 ∷ []
