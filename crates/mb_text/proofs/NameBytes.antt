-- A name is a text of ASCII.
use Rattle.std.proofs.Common.{List, [], arith, true, ℕ, ◌<◌, ◌∷◌, ◌≡◌}
use Rattle.std.proofs.lemmas.Bool.Decides.{nat_tests}
use Rattle.std.proofs.lemmas.List.Sums.{AllPass-from_list_all}
use Rattle.std.proofs.lemmas.Str.{IsUtf8-from_ascii}
use Rattle.std.proofs.lemmas.Str.Ascii.{IsAscii-from_all}
use Rattle.std.specs.List.{list_all}
use Rattle.std.specs.Str.{IsAscii, IsUtf8}
use Rattle.mb_text.specs.Name.{is_name, is_name_byte}

-- a byte of a name is below 128
low_byte : (b : ℕ) → is_name_byte b ≡ true → b < 128
low_byte b e = grind (arith, nat_tests, e)

-- so each byte is
low_bytes : (name : List ℕ) → list_all is_name_byte name ≡ true → IsAscii name
low_bytes name e =
    IsAscii-from_all name
    (λ k d l. low_byte _ (AllPass-from_list_all is_name_byte name e k d l))

-- the bytes of a name may all stand in one
pub name_bytes : (name : List ℕ) → is_name name ≡ true → list_all is_name_byte name ≡ true
name_bytes [] e = absurd cc
name_bytes (b ∷ name) e = grind (arith, nat_tests, e)

-- a name is a text
pub name_is_text : (name : List ℕ) → is_name name ≡ true → IsUtf8 name
name_is_text name e = IsUtf8-from_ascii name (low_bytes name (name_bytes name e))
