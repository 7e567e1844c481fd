-- Numbers digit by digit, cut at the cap.
use Rattle.std.proofs.Common.{List, None, Option, Some, [], ap, arith, cond, drop, eqb, false, get_or, length, refl, sym, true, ℕ, ◌*◌, ◌+◌, ◌-◌, ◌<◌, ◌≡◌, ◌≢◌, ◌≤◌, ◌∙◌, ◌∷◌, Bool}
use Rattle.std.proofs.lemmas.List.{at_drop_more, at_drop_all}
use Rattle.std.proofs.lemmas.Bool.{ne_eqb}
use Rattle.std.specs.Char.{is_ascii_digit}
use Rattle.std.specs.Option.{option_map}
use Rattle.mb_text.specs.loops.Capped.{capped}
use Rattle.mb_text.specs.Numerals.{natural_after, natural_of, number_of, with_sign}

-- numbers that are cut to the same are so with more digits
pub capped-after : (digits : List ℕ) (m n : ℕ) → capped m ≡ capped n →
    option_map capped (natural_after m digits) ≡ option_map capped (natural_after n digits)
unfolding natural_after
capped-after [] m n e = ap Some e
capped-after (b ∷ digits) m n e =
    chosen (is_ascii_digit b) (natural_after (m * 10 + (b - 48)) digits)
    (natural_after (n * 10 + (b - 48)) digits)
    (capped-after digits (m * 10 + (b - 48)) (n * 10 + (b - 48)) (omega arith))
  where
    chosen : (digit : Bool) (x y : Option ℕ) → option_map capped x ≡ option_map capped y →
        option_map capped (cond digit x None) ≡ option_map capped (cond digit y None)
    chosen true x y h = h
    chosen false x y h = refl

-- one more digit, cut
pub one_more_digit : (digits : List ℕ) (i n to : ℕ) → i < length digits →
    is_ascii_digit (get_or digits i 0) ≡ true → to ≡ capped (n * 10 + (get_or digits i 0 - 48)) →
    option_map capped (natural_after to (drop (i + 1) digits))
    ≡ option_map capped (natural_after n (drop i digits))
unfolding natural_after
one_more_digit digits i n to l h e =
    let b = get_or digits i 0 in
    let front = at_drop_more (natural_after n) digits i 0 l in
    let read : natural_after n (b ∷ drop (i + 1) digits)
    ≡ natural_after (n * 10 + (b - 48)) (drop (i + 1) digits) =
    ap (λ digit. cond digit (natural_after (n * 10 + (b - 48)) (drop (i + 1) digits)) None) h in
    capped-after (drop (i + 1) digits) to (n * 10 + (b - 48)) (omega arith)
    ∙ ap (option_map capped) (sym (front ∙ read))

-- a byte that is no digit ends it
pub no_digit : (digits : List ℕ) (i n : ℕ) → i < length digits →
    is_ascii_digit (get_or digits i 0) ≡ false → natural_after n (drop i digits) ≡ None
unfolding natural_after
no_digit digits i n l h =
    at_drop_more (natural_after n) digits i 0 l
    ∙ ap (λ digit.
    cond digit (natural_after (n * 10 + (get_or digits i 0 - 48)) (drop (i + 1) digits)) None) h

-- after the last digit
pub no_more_digits : (digits : List ℕ) (i n : ℕ) → length digits ≤ i →
    natural_after n (drop i digits) ≡ Some n
unfolding natural_after
no_more_digits digits i n l = at_drop_all (natural_after n) digits i l

-- no byte, no number
pub natural_of-nil : natural_of [] ≡ None
unfolding natural_of
natural_of-nil = refl

-- some byte, and the digits decide
pub natural_of-some : (digits : List ℕ) → 0 < length digits →
    natural_of digits ≡ natural_after 0 digits
unfolding natural_of
natural_of-some [] l = absurd (omega arith)
natural_of-some (b ∷ digits) l = refl

-- a minus in front
pub number_of-minus : (token : List ℕ) → 0 < length token → get_or token 0 0 ≡ 45 →
    number_of token ≡ option_map (with_sign true) (natural_of (drop 1 token))
unfolding number_of
number_of-minus [] l h = absurd (omega arith)
number_of-minus (b ∷ digits) l h = rw h refl

-- a plus in front
pub number_of-plus : (token : List ℕ) → 0 < length token → get_or token 0 0 ≡ 43 →
    number_of token ≡ option_map (with_sign false) (natural_of (drop 1 token))
unfolding number_of
number_of-plus [] l h = absurd (omega arith)
number_of-plus (b ∷ digits) l h = rw h refl

-- no sign in front
pub number_of-plain : (token : List ℕ) → get_or token 0 0 ≢ 45 → get_or token 0 0 ≢ 43 →
    number_of token ≡ option_map (with_sign false) (natural_of token)
unfolding number_of natural_of
number_of-plain [] n p = refl
number_of-plain (b ∷ digits) n p =
    ap (λ test. cond test (option_map (with_sign true) (natural_of digits))
    (option_map (with_sign false) (natural_of (cond (eqb b 43) digits (b ∷ digits)))))
    (ne_eqb b 45 n)
    ∙ ap (λ test. option_map (with_sign false) (natural_of (cond test digits (b ∷ digits))))
    (ne_eqb b 43 p)

-- no byte
pub number_of-empty : (token : List ℕ) (minus : Bool) → length token ≡ 0 →
    number_of token ≡ option_map (with_sign minus) (natural_of token)
unfolding number_of natural_of
number_of-empty [] minus l = refl
number_of-empty (b ∷ digits) minus l = absurd (omega arith)

-- the ways in which a token begins
pub ruleset sign_steps = (number_of-minus, number_of-plus, number_of-plain, number_of-empty)
