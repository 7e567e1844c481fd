-- The bytes of items: neither line ends nor spaces.
use Rattle.std.proofs.Common.{All, Bool, List, [], ap, false, map, not, refl, true, ℕ, arith, ◌&&◌, ◌<◌, ◌==◌, ◌^◌, ◌∙◌, ◌∷◌, ◌≡◌, ◌≢◌}
use Rattle.std.proofs.lemmas.Bool.Decides.{nat_tests}
use Rattle.std.proofs.lemmas.List.Elements.{All-head, All-tail}
use Rattle.std.proofs.lemmas.List.Sums.{AllPass-from_list_all, list_all-from_AllPass}
use Rattle.std.specs.Char.{is_ascii_digit}
use Rattle.std.specs.Fmt.{decimal}
use Rattle.std.specs.List.{join_with_byte, list_all}
use Rattle.mb_text.proofs.NameBytes.{name_bytes}
use Rattle.mb_text.proofs.NumeralItems.{decimal_is_numeral, numeral_digits}
use Rattle.mb_text.proofs.PieceLaws.{pieces_again}
use Rattle.mb_text.specs.Laws.{Lacks}
use Rattle.mb_text.specs.LineForms.{is_numeral}
use Rattle.mb_text.specs.Lines.{items}
use Rattle.mb_text.specs.Name.{IsName, is_name_byte}

-- neither a line end nor a space
abbrev pub is_item_byte : ℕ → Bool
is_item_byte b = not (b == 10) && not (b == 32)

-- an item has no other bytes
abbrev pub is_item : List ℕ → Bool
is_item item = list_all is_item_byte item

-- a list of items
abbrev pub are_items : List (List ℕ) → Bool
are_items list = list_all is_item list

-- a test of each byte that brings another
pub each_byte : (p q : ℕ → Bool) → ((b : ℕ) → p b ≡ true → q b ≡ true) → (text : List ℕ) →
    list_all p text ≡ true → list_all q text ≡ true
each_byte p q h text e =
    list_all-from_AllPass q text (λ k d l. h _ (AllPass-from_list_all p text e k d l))

-- a byte of an item is no line end
byte_no_end : (b : ℕ) → is_item_byte b ≡ true → (b == 10) ≡ false
byte_no_end b e = grind (arith, nat_tests, e)

-- and no space
byte_no_space : (b : ℕ) → is_item_byte b ≡ true → (b == 32) ≡ false
byte_no_space b e = grind (arith, nat_tests, e)

-- items have no line end
pub no_end : (list : List (List ℕ)) → are_items list ≡ true → All (Lacks 10) list
no_end list e k d l i c m =
    byte_no_end _ (AllPass-from_list_all is_item_byte _
    (AllPass-from_list_all is_item list e k d l) i c m)

-- and no space
pub no_space : (list : List (List ℕ)) → are_items list ≡ true → All (Lacks 32) list
no_space list e k d l i c m =
    byte_no_space _ (AllPass-from_list_all is_item_byte _
    (AllPass-from_list_all is_item list e k d l) i c m)

-- items, joined, are cut again
pub items_again : (list : List (List ℕ)) → list ≢ [] → are_items list ≡ true →
    items (join_with_byte 32 list) ≡ list
items_again list some e = pieces_again 32 list some (no_space list e)

-- one item in front of others
pub item_front : (item : List ℕ) (list : List (List ℕ)) → is_item item ≡ true →
    are_items list ≡ true → are_items (item ∷ list) ≡ true
item_front item list one others = ap (λ t. t && are_items list) one ∙ others

-- a digit is a byte of an item
digit_byte : (b : ℕ) → is_ascii_digit b ≡ true → is_item_byte b ≡ true
digit_byte b e = grind (arith, nat_tests, e)

-- so a numeral is an item
pub numeral_is_item : (item : List ℕ) → is_numeral item ≡ true → is_item item ≡ true
numeral_is_item item e =
    each_byte is_ascii_digit is_item_byte digit_byte item (numeral_digits item e)

-- and a decimal form
pub decimal_is_item : (n : ℕ) → n < 10 ^ 64 → is_item (decimal n) ≡ true
decimal_is_item n small = numeral_is_item (decimal n) (decimal_is_numeral n small)

-- and so are all
pub decimals_are_items : (numbers : List ℕ) → All (λ n. n < 2 ^ 32) numbers →
    are_items (map decimal numbers) ≡ true
decimals_are_items [] small = refl
decimals_are_items (n ∷ numbers) small =
    item_front (decimal n) (map decimal numbers)
    (decimal_is_item n
    (let l = All-head (λ n. n < 2 ^ 32) n numbers small in omega arith))
    (decimals_are_items numbers (All-tail (λ n. n < 2 ^ 32) n numbers small))

-- a byte of a name is a byte of an item
name_byte : (b : ℕ) → is_name_byte b ≡ true → is_item_byte b ≡ true
name_byte b e = grind (arith, nat_tests, e)

-- so a name is an item
pub name_is_item : (name : List ℕ) → IsName name → is_item name ≡ true
name_is_item name e = each_byte is_name_byte is_item_byte name_byte name (name_bytes name e)
