-- The tokens of lines, and of written numbers.
use Rattle.std.proofs.Common.{All, List, [], ap, append_assoc, arith, eqb, false, get_or, leb, length, negsuc, pos, refl, suc, sym, true, ℕ, ℤ, ◌&&◌, ◌++◌, ◌<◌, ◌^◌, ◌∙◌, ◌∷◌, ◌≡◌, ◌≢◌, ◌||◌}
use Rattle.std.proofs.lemmas.Bool.{le-leb, lt-leb, ne_eqb}
use Rattle.std.proofs.lemmas.List.Elements.{All-append, All-from_recursion, All-head, All-tail}
use Rattle.std.specs.Fmt.{decimal, signed_decimal}
use Rattle.std.specs.Int.RustNames.{unsigned_abs}
use Rattle.std.specs.List.{join_with_byte}
use Rattle.mb_text.specs.Lines.{line}
use Rattle.mb_text.specs.Tokens.{IsToken, is_blank, tokens}
use Rattle.mb_text.proofs.DecimalForms.{decimal_form, digit_range}
use Rattle.mb_text.proofs.TokenSteps.{tokens-at}

-- a list that isn't empty has some length
some_length : {A : Type 0} (list : List A) → list ≢ [] → 0 < length list
some_length [] h = absurd (h refl)
some_length (x ∷ list) h = omega arith

-- items with a space between them, a line end and a rest
tokens-items : (list : List (List ℕ)) (rest : List ℕ) → list ≢ [] → All IsToken list →
    tokens ((join_with_byte 32 list ++ 10 ∷ []) ++ rest) ≡ list ++ tokens rest
tokens-items [] rest some each = absurd (some refl)
tokens-items (x ∷ []) rest some each =
    let is = All-head IsToken x [] each in
    ap tokens (append_assoc x (10 ∷ []) rest)
    ∙ tokens-at x 10 rest (some_length x is.some) is.plain refl
tokens-items (x ∷ y ∷ list) rest some each =
    let is = All-head IsToken x (y ∷ list) each in
    let others = join_with_byte 32 (y ∷ list) in
    ap tokens (append_assoc (x ++ (32 ∷ others)) (10 ∷ []) rest
    ∙ append_assoc x (32 ∷ others) (10 ∷ rest))
    ∙ tokens-at x 32 (others ++ 10 ∷ rest) (some_length x is.some) is.plain refl
    ∙ ap (λ more. x ∷ tokens more) (sym (append_assoc others (10 ∷ []) rest))
    ∙ ap (λ more. x ∷ more)
    (tokens-items (y ∷ list) rest (λ e. cc) (All-tail IsToken x (y ∷ list) each))

-- the tokens of a line are its items
pub tokens-line : (list : List (List ℕ)) (rest : List ℕ) → list ≢ [] → All IsToken list →
    tokens (line list ++ rest) ≡ list ++ tokens rest
unfolding line
tokens-line list rest some each = tokens-items list rest some each

-- a byte past the space is no blank
not_blank : (b : ℕ) → 32 < b → is_blank b ≡ false
not_blank b h =
    ap (λ low. (low && leb b 13) || eqb b 32) (le-leb 9 b (omega arith))
    ∙ ap (λ high. (true && high) || eqb b 32) (lt-leb b 13 (omega arith))
    ∙ ne_eqb b 32 (λ e. omega arith)

-- a number in decimal has no blank
plain_decimal : (n : ℕ) → n < 10 ^ 64 → All (λ b. is_blank b ≡ false) (decimal n)
plain_decimal n small k d l =
    let b = get_or (decimal n) k d in
    let range = digit_range b ((decimal_form n small).each k d l) in
    let low = range.0 in
    not_blank b (omega arith)

-- and some byte
some_decimal : (n : ℕ) → n < 10 ^ 64 → decimal n ≢ []
some_decimal n small e =
    let some = (decimal_form n small).some in
    let none : length (decimal n) ≡ 0 = ap length e in
    omega arith

-- so it is a token, with a minus too
pub token-signed_decimal : (z : ℤ) → unsigned_abs z < 10 ^ 64 → IsToken (signed_decimal z)
token-signed_decimal (pos n) small = record {
  some = some_decimal n small;
  plain = plain_decimal n small;
}
token-signed_decimal (negsuc n) small = record {
  some = λ e. cc;
  plain = All-append (λ b. is_blank b ≡ false) (45 ∷ []) (decimal (suc n))
      (All-from_recursion (λ b. is_blank b ≡ false) (45 ∷ []) (not_blank 45 (omega arith), tt))
      (plain_decimal (suc n) small);
}
