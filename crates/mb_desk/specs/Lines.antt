-- The one line of a refusal: its name, and fields of a key and a value.
use Rattle.std.specs.List.{join_with_byte}
use Rattle.std.specs.Coded.{Coded, code_by, coded_list, coded_ℕ, coded×}
use Rattle.std.specs.Fmt.{decimal}
use Rattle.std.specs.Prelude.{List, [], codes, map, refl, ℕ, ◌++◌, ◌∷◌}

-- a field as it is printed
pub record Shown : Type 0 where
  pub key : List ℕ
  pub value : List ℕ

-- it is stored as the pair of the two
abbrev pub shown_code : Coded Shown
shown_code =
    code_by (List ℕ × List ℕ) (coded× (coded_list coded_ℕ) (coded_list coded_ℕ))
    (λ f. (f.key, f.value)) (λ p. record { key = p.0; value = p.1 }) (λ _. refl)

-- a text under a key
abbrev pub text : List ℕ → List ℕ → Shown
text key value = record { key = key; value = value }

-- a number under a key, in decimal digits
abbrev pub number : List ℕ → ℕ → Shown
number key value = text key (decimal value)

-- two numbers under a key, with a space between them
abbrev pub numbers : List ℕ → ℕ × ℕ → Shown
numbers key pair = text key (decimal pair.0 ++ (32 ∷ decimal pair.1))

-- the counts of a table under a key, with a space between each two
abbrev pub counts : List ℕ → List ℕ → Shown
counts key table = text key (join_with_byte 32 (map decimal table))

-- a space, the key, a space, the value
abbrev pub field_text : Shown → List ℕ
field_text field = 32 ∷ field.key ++ (32 ∷ field.value)

-- the fields one after the other, and a line end
unfoldable pub fields_text : List Shown → List ℕ
fields_text [] = 10 ∷ []
fields_text (field ∷ fields) = field_text field ++ fields_text fields

-- the line of a name and fields
abbrev pub line_of : List ℕ → List Shown → List ℕ
line_of name fields = (codes "refused " ++ name) ++ fields_text fields
