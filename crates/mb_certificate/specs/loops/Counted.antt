-- Lines that are counted as they are read.
use Rattle.std.specs.Prelude.{List, None, Option, Some, [], length, ℕ, ◌+◌, ◌<◌, ◌≤◌, ◌^◌}
use Rattle.mb_text.specs.Lines.{items}

-- the number of the next line fits 64 bits, and so does that of each line after it: a line takes
-- two bytes or more
pub record AreCounted (number : ℕ) (text : List ℕ) : Type 0 where
  pub first : 1 ≤ number
  pub fits : number < 2 ^ 64
  pub left : number + length text ≤ 2 ^ 64

-- the items of what is left of a line
abbrev pub items_left : Option (List ℕ) → List (List ℕ)
items_left None = []
items_left (Some rest) = items rest
