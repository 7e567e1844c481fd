-- The count field of a record.
use Rattle.std.specs.Prelude.{List, Option, Some, [], if◌then◌else◌, reverse, ℕ, ◌==◌, ◌∷◌}
use Rattle.std.specs.Option.{option_map}
use Rattle.std.specs.Str.{bytes_eq}
use Rattle.mb_text.specs.Numerals.{natural_of}
use Rattle.mb_data.specs.declared.entry.Entry.{Entry}
use Rattle.mb_data.specs.declared.entry.Entry.TheVariants.{Count, StructuralZero}

-- a field without the spaces (32) at its start
unfoldable pub after_spaces : List ℕ → List ℕ
after_spaces [] = []
after_spaces (b ∷ field) = if b == 32 then after_spaces field else b ∷ field

-- a field without the spaces at its end
unfoldable pub before_spaces : List ℕ → List ℕ
before_spaces field = reverse (after_spaces (reverse field))

-- a field without the spaces around it
abbrev pub trimmed : List ℕ → List ℕ
trimmed field = before_spaces (after_spaces field)

-- the entry of a field without spaces: `*` (42) is a structural zero, and digits are a count
abbrev pub entry_at_core : List ℕ → Option Entry
entry_at_core core =
    if bytes_eq core (42 ∷ []) then Some StructuralZero else option_map Count (natural_of core)

-- the entry that a count field says, if any
abbrev pub entry_of : List ℕ → Option Entry
entry_of field = entry_at_core (trimmed field)
