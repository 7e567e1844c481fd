-- What a line says: a word, and the items after it.
use Rattle.std.specs.Char.{is_ascii_digit}
use Rattle.std.specs.List.{list_all}
use Rattle.std.specs.Option.{option_and_then}
use Rattle.std.specs.Prelude.{Bool, List, None, Option, Some, [], if◌then◌else◌, ℕ, ◌&&◌, ◌-◌, ◌^◌, ◌∷◌}
use Rattle.std.specs.Str.{bytes_eq}
use Rattle.mb_text.specs.Lines.{items}
use Rattle.mb_text.specs.Name.{is_name}
use Rattle.mb_text.specs.Plain.{at_most, each_of, is_plain, plain_of}

-- a value, where it passes a test
abbrev pub passing : {A : Type 0} → (A → Bool) → A → Option A
passing test x = if test x then Some x else None

-- a line of this text alone
abbrev pub exactly : List ℕ → List ℕ → Option (Unit {0})
exactly text line = if bytes_eq line text then Some tt else None

-- the items after a word, of which there is one at least
abbrev pub after : List ℕ → List (List ℕ) → Option (List (List ℕ))
after word (first ∷ item ∷ others) = if bytes_eq first word then Some (item ∷ others) else None
after word _ = None

-- the only item
abbrev pub only : List (List ℕ) → Option (List ℕ)
only (item ∷ []) = Some item
only _ = None

-- the only item after a word
abbrev pub item_after : List ℕ → List ℕ → Option (List ℕ)
item_after word line = option_and_then only (after word (items line))

-- the value of the only item after a word
abbrev pub value_after : {A : Type 0} → List ℕ → (List ℕ → Option A) → List ℕ → Option A
value_after word value line = option_and_then value (item_after word line)

-- a name after a word
abbrev pub name_after : List ℕ → List ℕ → Option (List ℕ)
name_after word line = value_after word (passing is_name) line

-- whether an item is a number, of any size, in its one spelling
abbrev pub is_numeral : List ℕ → Bool
is_numeral item = is_plain item && list_all is_ascii_digit item

-- the numbers below 2^32 that items are
abbrev pub numbers_of : List (List ℕ) → Option (List ℕ)
numbers_of list = each_of (λ item. at_most (2 ^ 32 - 1) (plain_of item)) list

-- the numbers after a word
abbrev pub numbers_after : List ℕ → List (List ℕ) → Option (List ℕ)
numbers_after word list = option_and_then numbers_of (after word list)
