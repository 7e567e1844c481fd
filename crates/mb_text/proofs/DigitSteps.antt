-- Numbers up to a limit, digit by digit.
use Rattle.std.proofs.Common.{Bool, List, None, Option, Some, [], ap, arith, cond, drop, false, get_or, length, refl, true, ℕ, ◌*◌, ◌+◌, ◌-◌, ◌<◌, ◌∙◌, ◌∷◌, ◌≡◌, ◌≤◌}
use Rattle.std.proofs.lemmas.Bool.{le-leb, lt-leb}
use Rattle.std.proofs.lemmas.List.{at_drop_more}
use Rattle.std.specs.Char.{is_ascii_digit}
use Rattle.mb_text.specs.Numerals.{natural_after}
use Rattle.mb_text.specs.Plain.{at_most}

-- a number that is within the limit
pub at_most-within : (highest n : ℕ) → n ≤ highest → at_most highest (Some n) ≡ Some n
at_most-within highest n l = ap (λ fits. cond fits (Some n) None) (le-leb n highest l)

-- a number that passes it
pub at_most-above : (highest n : ℕ) → highest < n → at_most highest (Some n) ≡ None
at_most-above highest n l = ap (λ fits. cond fits (Some n) None) (lt-leb n highest l)

-- a number that passes the limit passes it with more digits too
pub too_large : (highest n : ℕ) (digits : List ℕ) → highest < n →
    at_most highest (natural_after n digits) ≡ None
unfolding natural_after
too_large highest n [] l = at_most-above highest n l
too_large highest n (b ∷ digits) l =
    chosen (is_ascii_digit b) (natural_after (n * 10 + (b - 48)) digits)
    (too_large highest (n * 10 + (b - 48)) digits (omega arith))
  where
    chosen : (digit : Bool) (x : Option ℕ) → at_most highest x ≡ None →
        at_most highest (cond digit x None) ≡ None
    chosen true x h = h
    chosen false x h = refl

-- one more digit
pub next_digit : (digits : List ℕ) (i n : ℕ) → i < length digits →
    is_ascii_digit (get_or digits i 0) ≡ true →
    natural_after n (drop i digits)
    ≡ natural_after (n * 10 + (get_or digits i 0 - 48)) (drop (i + 1) digits)
unfolding natural_after
next_digit digits i n l h =
    at_drop_more (natural_after n) digits i 0 l
    ∙ ap (λ digit.
    cond digit (natural_after (n * 10 + (get_or digits i 0 - 48)) (drop (i + 1) digits)) None) h
