-- Numerals: their digits, and the numbers up to a limit that they are read as.
use Rattle.std.proofs.Common.{Bool, List, None, Option, Some, [], ap, arith, cond, false, nat_le, refl, true, ℕ, ◌&&◌, ◌*◌, ◌+◌, ◌-◌, ◌<◌, ◌^◌, ◌∙◌, ◌∷◌, ◌≡◌, ◌≤◌}
use Rattle.std.proofs.lemmas.Bool.{and_parts, le-leb, leb-true}
use Rattle.std.specs.Char.{is_ascii_digit}
use Rattle.std.specs.Fmt.{decimal}
use Rattle.std.specs.List.{list_all}
use Rattle.mb_text.proofs.DecimalForms.{decimal_is_plain, plain_is_decimal}
use Rattle.mb_text.specs.LineForms.{is_numeral}
use Rattle.mb_text.specs.Numerals.{natural_after, natural_of}
use Rattle.mb_text.specs.Plain.{at_most, is_plain, plain_of}

-- a value that was let through is the one that was tested
pub let_through : {A : Type 0} (t : Bool) (x y : A) → cond t (Some x) None ≡ Some y →
    (t ≡ true) × (x ≡ y)
let_through true x y e = (refl, cc)
let_through false x y e = absurd cc

-- the bytes that a number is read from are digits
all_digits : (n m : ℕ) (digits : List ℕ) → natural_after n digits ≡ Some m →
    list_all is_ascii_digit digits ≡ true
unfolding natural_after
all_digits n m [] e = refl
all_digits n m (b ∷ digits) e =
    by (is_ascii_digit b) e (all_digits (n * 10 + (b - 48)) m digits)
  where
    by : (t : Bool) → cond t (natural_after (n * 10 + (b - 48)) digits) None ≡ Some m →
        (natural_after (n * 10 + (b - 48)) digits ≡ Some m →
        list_all is_ascii_digit digits ≡ true) →
        (t && list_all is_ascii_digit digits) ≡ true
    by true f ih = ih f
    by false f ih = absurd cc

-- an item that is read as a number is a numeral
pub numeral_read : (item : List ℕ) (n : ℕ) → plain_of item ≡ Some n → is_numeral item ≡ true
unfolding plain_of natural_of
numeral_read [] n e = absurd cc
numeral_read (b ∷ item) n e = by (is_plain (b ∷ item)) e
  where
    by : (t : Bool) → cond t (natural_after 0 (b ∷ item)) None ≡ Some n →
        (t && list_all is_ascii_digit (b ∷ item)) ≡ true
    by true f = all_digits 0 n (b ∷ item) f
    by false f = absurd cc

-- so a decimal form is one
pub decimal_is_numeral : (n : ℕ) → n < 10 ^ 64 → is_numeral (decimal n) ≡ true
decimal_is_numeral n small = numeral_read (decimal n) n (decimal_is_plain n small)

-- the bytes of a numeral are digits
pub numeral_digits : (item : List ℕ) → is_numeral item ≡ true →
    list_all is_ascii_digit item ≡ true
numeral_digits item e = (and_parts (is_plain item) (list_all is_ascii_digit item) e).1

-- a number up to a limit is read from its decimal form
pub number_written : (highest n : ℕ) → highest < 10 ^ 64 → n ≤ highest →
    at_most highest (plain_of (decimal n)) ≡ Some n
number_written highest n far small =
    ap (at_most highest) (decimal_is_plain n (omega arith))
    ∙ ap (λ t. cond t (Some n) None) (le-leb n highest small)

-- and an item that is read as one is its decimal form
pub number_read : (highest : ℕ) (item : List ℕ) (n : ℕ) → highest < 10 ^ 64 →
    at_most highest (plain_of item) ≡ Some n → (item ≡ decimal n) × (n ≤ highest)
number_read highest item n far e = by (plain_of item) refl e
  where
    by : (number : Option ℕ) → plain_of item ≡ number → at_most highest number ≡ Some n →
        (item ≡ decimal n) × (n ≤ highest)
    by None em f = absurd cc
    by (Some m) em f =
        let through = let_through (nat_le m highest) m n f in
        let same = through.1 in
        let small = leb-true m highest through.0 in
        (plain_is_decimal item n (omega arith) (em ∙ ap Some same), omega arith)
