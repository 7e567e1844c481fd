-- Numbers that have exactly one spelling.
use Rattle.std.specs.Prelude.{Bool, List, None, Option, Some, [], false, if◌then◌else◌, nat_le, negsuc, not, pos, suc, true, zero, ℕ, ℤ, ◌==◌, ◌∷◌}
use Rattle.std.specs.Int.RustNames.{unsigned_abs}
use Rattle.std.specs.Option.{option_and_then, option_map}
use Rattle.mb_text.specs.Numerals.{natural_of}

-- whether no needless 0 (48) stands in front
abbrev pub is_plain : List ℕ → Bool
is_plain [] = false
is_plain (b ∷ []) = true
is_plain (b ∷ c ∷ digits) = not (b == 48)

-- the number that an item writes in decimal, without leading zeros
unfoldable pub plain_of : List ℕ → Option ℕ
plain_of item = if is_plain item then natural_of item else None

-- a number below 0 from its size
abbrev pub below_zero : ℕ → Option ℤ
below_zero zero = None
below_zero (suc n) = Some (negsuc n)

-- the same with a `-` (45) before a number that isn't 0
unfoldable pub plain_signed_of : List ℕ → Option ℤ
plain_signed_of [] = None
plain_signed_of (b ∷ item) =
    if b == 45 then option_and_then below_zero (plain_of item)
    else option_map pos (plain_of (b ∷ item))

-- a number up to a limit
abbrev pub at_most : ℕ → Option ℕ → Option ℕ
at_most highest None = None
at_most highest (Some n) = if nat_le n highest then Some n else None

-- a number from the lowest on
abbrev pub at_least : ℕ → Option ℕ → Option ℕ
at_least lowest None = None
at_least lowest (Some n) = if nat_le lowest n then Some n else None

-- the number from the lowest to the highest that an item writes
abbrev pub number_within : ℕ → ℕ → List ℕ → Option ℕ
number_within lowest highest item = at_least lowest (at_most highest (plain_of item))

-- a number of a size up to a limit
abbrev pub size_at_most : ℕ → Option ℤ → Option ℤ
size_at_most highest None = None
size_at_most highest (Some z) = if nat_le (unsigned_abs z) highest then Some z else None

-- what each element is, where each of them is something
unfoldable pub each_of : {A B : Type 0} → (A → Option B) → List A → Option (List B)
each_of read [] = Some []
each_of read (x ∷ list) =
    option_and_then (λ y. option_map (λ others. y ∷ others) (each_of read list)) (read x)
