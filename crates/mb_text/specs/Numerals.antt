-- Decimal numbers of any size.
use Rattle.std.specs.Prelude.{Bool, List, None, Option, Some, [], false, if◌then◌else◌, neg_ℤ, pos, true, ℕ, ℤ, ◌*◌, ◌+◌, ◌-◌, ◌==◌, ◌∷◌}
use Rattle.std.specs.Char.{is_ascii_digit}
use Rattle.std.specs.Option.{option_map}

-- the number that digits write when they follow those of n; nothing where one is no digit
unfoldable pub natural_after : ℕ → List ℕ → Option ℕ
natural_after n [] = Some n
natural_after n (b ∷ digits) =
    if is_ascii_digit b then natural_after (n * 10 + (b - 48)) digits else None

-- the number that one or more digits write; leading zeros are read
unfoldable pub natural_of : List ℕ → Option ℕ
natural_of [] = None
natural_of (b ∷ digits) = natural_after 0 (b ∷ digits)

-- a number with a minus, or without
abbrev pub with_sign : Bool → ℕ → ℤ
with_sign true n = neg_ℤ (pos n)
with_sign false n = pos n

-- the number of a token: an optional `-` (45) or `+` (43), then one or more digits
unfoldable pub number_of : List ℕ → Option ℤ
number_of [] = None
number_of (b ∷ digits) =
    if b == 45 then option_map (with_sign true) (natural_of digits)
    else option_map (with_sign false) (natural_of (if b == 43 then digits else b ∷ digits))
