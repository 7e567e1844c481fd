-- Which of several owners keeps a table.
use Rattle.std.specs.Prelude.{List, [], ℕ, ◌%◌, ◌*◌, ◌+◌, ◌/◌, ◌^◌, ◌∷◌}

-- the number of 64 bits that counts make, behind those that made this one
unfoldable pub mixed : ℕ → List ℕ → ℕ
mixed number [] = number
mixed number (count ∷ counts) =
    mixed (((number * 11400714819323198485) % 2 ^ 64 + count) % 2 ^ 64) counts

-- the owner of a table, among so many: its number is cut to the 32 leading bits, since the others
-- are alike in tables of one total
abbrev pub owner_of : ℕ → List ℕ → ℕ
owner_of owners table = (mixed 0 table / 2 ^ 32) % owners
