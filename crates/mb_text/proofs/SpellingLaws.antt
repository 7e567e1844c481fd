-- The one spelling of numbers, both ways.
use Rattle.std.proofs.Common.{List, None, Option, Some, [], ap, arith, drop, false, true, get_or, length, negsuc, pos, refl, suc, sym, zero, ℕ, ℤ, ◌<◌, ◌^◌, ◌∙◌, ◌∷◌, ◌≡◌, ◌≢◌, ◌⊎◌, inl, inr}
use Rattle.std.proofs.lemmas.Bool.{cases_eq}
use Rattle.std.specs.Fmt.{decimal, signed_decimal}
use Rattle.std.specs.Int.RustNames.{unsigned_abs}
use Rattle.std.specs.Option.{option_and_then, option_map}
use Rattle.mb_text.specs.Numerals.{number_of, with_sign}
use Rattle.mb_text.specs.Plain.{below_zero, plain_of, plain_signed_of}
use Rattle.mb_text.proofs.DecimalForms.{decimal_is_plain, first_digit, natural_of-decimal, plain_is_decimal}
use Rattle.mb_text.proofs.NumberSteps.{number_of-minus, number_of-plain}
use Rattle.mb_text.proofs.SignSteps.{plain_signed_of-above, plain_signed_of-below}

-- a number that isn't below 0, from its size
above_is : (number : Option ℕ) (z : ℤ) → option_map pos number ≡ Some z →
    (n : ℕ) × (number ≡ Some n) × (z ≡ pos n)
above_is None z e = absurd cc
above_is (Some n) z e = (n, refl, cc)

-- a number below 0, from its size
below_is : (number : Option ℕ) (z : ℤ) → option_and_then below_zero number ≡ Some z →
    (n : ℕ) × (number ≡ Some (suc n)) × (z ≡ negsuc n)
below_is None z e = absurd cc
below_is (Some zero) z e = absurd cc
below_is (Some (suc n)) z e = (n, refl, cc)

-- the list from its first byte
from_first : (item : List ℕ) → 0 < length item → item ≡ get_or item 0 0 ∷ drop 1 item
from_first [] l = absurd (omega arith)
from_first (b ∷ item) l = refl

-- an item that begins with 45 has a byte
some_byte : (item : List ℕ) → get_or item 0 0 ≡ 45 → 0 < length item
some_byte [] e = absurd (omega arith)
some_byte (b ∷ item) e = omega arith

-- a number with a sign is the decimal form of its value
pub signed_is_decimal : (item : List ℕ) (z : ℤ) → unsigned_abs z < 10 ^ 64 →
    plain_signed_of item ≡ Some z → item ≡ signed_decimal z
signed_is_decimal item z small e = by (cases_eq (get_or item 0 0) 45)
  where
    by : (get_or item 0 0 ≡ 45) ⊎ (get_or item 0 0 ≢ 45) → item ≡ signed_decimal z
    by (inl h) =
        let l = some_byte item h in
        let p = below_is (plain_of (drop 1 item)) z
        (sym (plain_signed_of-below item l h) ∙ e) in
        let fits : suc p.0 < 10 ^ 64 = rw p.2 at small in
        from_first item l
        ∙ ap (λ b. b ∷ drop 1 item) h
        ∙ ap (λ digits. 45 ∷ digits) (plain_is_decimal (drop 1 item) (suc p.0) fits p.1)
        ∙ ap signed_decimal (sym p.2)
    by (inr h) =
        let p = above_is (plain_of item) z (sym (plain_signed_of-above item h) ∙ e) in
        let fits : p.0 < 10 ^ 64 = rw p.2 at small in
        plain_is_decimal item p.0 fits p.1 ∙ ap signed_decimal (sym p.2)

-- and the decimal form is a number with a sign
pub decimal_is_signed : (z : ℤ) → unsigned_abs z < 10 ^ 64 →
    plain_signed_of (signed_decimal z) ≡ Some z
decimal_is_signed (pos n) small =
    let first = first_digit n small in
    plain_signed_of-above (decimal n) (λ e. omega arith)
    ∙ ap (option_map pos) (decimal_is_plain n small)
decimal_is_signed (negsuc n) small =
    plain_signed_of-below (45 ∷ decimal (suc n)) (omega arith) refl
    ∙ ap (option_and_then below_zero) (decimal_is_plain (suc n) small)

-- a token that is a decimal form is read as its number
pub number_of-signed_decimal : (z : ℤ) → unsigned_abs z < 10 ^ 64 →
    number_of (signed_decimal z) ≡ Some z
number_of-signed_decimal (pos n) small =
    let first = first_digit n small in
    number_of-plain (decimal n) (λ e. omega arith) (λ e. omega arith)
    ∙ ap (option_map (with_sign false)) (natural_of-decimal n small)
number_of-signed_decimal (negsuc n) small =
    number_of-minus (45 ∷ decimal (suc n)) (omega arith) refl
    ∙ ap (option_map (with_sign true)) (natural_of-decimal (suc n) small)
