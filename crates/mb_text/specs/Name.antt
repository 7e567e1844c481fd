-- Names of records.
use Rattle.std.specs.Char.{is_ascii_digit, is_ascii_lowercase}
use Rattle.std.specs.List.{list_all}
use Rattle.std.specs.Prelude.{Bool, List, [], false, length, nat_le, not, true, ℕ, ◌&&◌, ◌==◌, ◌||◌, ◌∷◌, ◌≡◌}

-- a byte of a name: `a` to `z`, `0` to `9`, `-` (45) or `_` (95)
abbrev pub is_name_byte : ℕ → Bool
is_name_byte b = is_ascii_lowercase b || is_ascii_digit b || b == 45 || b == 95

-- a name has 1 to 64 such bytes, the first of them not `-`
abbrev pub is_name : List ℕ → Bool
is_name [] = false
is_name (b ∷ name) =
    not (b == 45) && nat_le (length (b ∷ name)) 64 && list_all is_name_byte (b ∷ name)

-- a text of the form of a name
abbrev pub IsName : List ℕ → Type 0
IsName name = is_name name ≡ true
