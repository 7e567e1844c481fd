-- The decimal form of a number, and that it is the only one without leading zeros.
use Rattle.std.proofs.Common.{All, Bool, List, None, Option, Some, [], ap, append_assoc, arith, cond, eqb, false, get_or, leb, length, not, refl, sym, true, ℕ, ◌%◌, ◌&&◌, ◌*◌, ◌+◌, ◌++◌, ◌-◌, ◌/◌, ◌<◌, ◌^◌, ◌∙◌, ◌∷◌, ◌≡◌, ◌≢◌, ◌≤◌, inl, inr, ◌⊎◌}
use Rattle.std.proofs.lemmas.Bool.{cases_lt, eqb-false, le-leb, leb-true, ne_eqb, not-true}
use Rattle.std.proofs.lemmas.Fmt.{decimal_by_steps_wide, decimal_digit, decimal_step_wide}
use Rattle.std.proofs.lemmas.List.{append-nil}
use Rattle.std.proofs.lemmas.List.Elements.{All-append, All-from_recursion}
use Rattle.std.specs.Char.{is_ascii_digit}
use Rattle.std.specs.Fmt.{decimal}
use Rattle.mb_text.proofs.NumberSteps.{natural_of-some}
use Rattle.mb_text.specs.Numerals.{natural_after, natural_of}
use Rattle.mb_text.specs.Plain.{is_plain, plain_of}

-- a digit from its number
digit_yes : (d : ℕ) → d ≤ 9 → is_ascii_digit (48 + d) ≡ true
digit_yes d l =
    ap (λ low. low && leb (48 + d) 57) (le-leb 48 (48 + d) (omega arith))
    ∙ le-leb (48 + d) 57 (omega arith)

-- the number of a digit
pub digit_range : (b : ℕ) → is_ascii_digit b ≡ true → (48 ≤ b) × (b ≤ 57)
digit_range b e = both (leb 48 b) (leb b 57) (leb-true 48 b) (leb-true b 57) e
  where
    both : {P Q : Type 0} (low high : Bool) → (low ≡ true → P) → (high ≡ true → Q) →
        (low && high) ≡ true → P × Q
    both true high p q f = (p refl, q f)
    both false high p q f = absurd cc

-- a test that lets something through
passed : {A : Type 0} (b : Bool) (x : Option A) (y : A) → cond b x None ≡ Some y →
    (b ≡ true) × (x ≡ Some y)
passed true x y e = (refl, e)
passed false x y e = absurd cc

-- digits that are read, and one more
natural_after-push : (m : ℕ) (digits : List ℕ) (k d : ℕ) → d ≤ 9 →
    natural_after m digits ≡ Some k →
    natural_after m (digits ++ (48 + d) ∷ []) ≡ Some (k * 10 + d)
unfolding natural_after
natural_after-push m [] k d l e =
    let same : m ≡ k = cc in
    let number : m * 10 + ((48 + d) - 48) ≡ k * 10 + d = omega arith in
    ap (λ digit. cond digit (Some (m * 10 + ((48 + d) - 48))) None) (digit_yes d l)
    ∙ ap Some number
natural_after-push m (b ∷ digits) k d l e =
    let p = passed (is_ascii_digit b) (natural_after (m * 10 + (b - 48)) digits) k e in
    ap (λ digit. cond digit (natural_after (m * 10 + (b - 48)) (digits ++ (48 + d) ∷ [])) None)
    p.0
    ∙ natural_after-push (m * 10 + (b - 48)) digits k d l p.1

-- the first of a list that goes on
first_same : (digits more : List ℕ) → 0 < length digits →
    get_or (digits ++ more) 0 0 ≡ get_or digits 0 0
first_same [] more l = absurd (omega arith)
first_same (b ∷ digits) more l = refl

-- a list that goes on is no shorter
first_some : (digits more : List ℕ) → 0 < length digits → 0 < length (digits ++ more)
first_some [] more l = absurd (omega arith)
first_some (b ∷ digits) more l = omega arith

-- what digits are as the decimal form of a number
pub record IsForm (n : ℕ) (digits : List ℕ) : Type 0 where
  pub some : 0 < length digits
  pub single : n < 10 → length digits ≡ 1
  pub first : 0 < n → 48 < get_or digits 0 0
  pub each : All (λ b. is_ascii_digit b ≡ true) digits
  pub value : natural_after 0 digits ≡ Some n

-- one digit
one_digit : (n : ℕ) → n < 10 → IsForm n ((48 + n) ∷ [])
unfolding natural_after
one_digit n l = record {
  some = omega arith;
  single = λ m. refl;
  first = λ m. omega arith;
  each = All-from_recursion (λ b. is_ascii_digit b ≡ true) ((48 + n) ∷ [])
      (digit_yes n (omega arith), tt);
  value = natural_after-push 0 [] 0 n (omega arith) refl ∙ ap Some (omega arith);
}

-- one digit more
more_digits : (n : ℕ) (digits : List ℕ) → 10 ≤ n → IsForm (n / 10) digits →
    IsForm n (digits ++ (48 + n % 10) ∷ [])
more_digits n digits l h = record {
  some = first_some digits ((48 + n % 10) ∷ []) h.some;
  single = λ m. absurd (omega arith);
  first = λ m. rw (first_same digits ((48 + n % 10) ∷ []) h.some) (h.first (omega arith));
  each = All-append (λ b. is_ascii_digit b ≡ true) digits ((48 + n % 10) ∷ []) h.each
      (All-from_recursion (λ b. is_ascii_digit b ≡ true) ((48 + n % 10) ∷ [])
      (digit_yes (n % 10) (omega arith), tt));
  value = natural_after-push 0 digits (n / 10) (n % 10) (omega arith) h.value
      ∙ ap Some (omega arith);
}

-- the decimal form of each number
pub decimal_form : (n : ℕ) → n < 10 ^ 64 → IsForm n (decimal n)
decimal_form n small = decimal_by_steps_wide IsForm one_digit more_digits n small

-- a number with more digits is no smaller
grows : (m : ℕ) (digits : List ℕ) (n : ℕ) → natural_after m digits ≡ Some n → m ≤ n
unfolding natural_after
grows m [] n e = let same : m ≡ n = cc in omega arith
grows m (b ∷ digits) n e =
    let p = passed (is_ascii_digit b) (natural_after (m * 10 + (b - 48)) digits) n e in
    let on = grows (m * 10 + (b - 48)) digits n p.1 in
    omega arith

-- digits after a number that isn't 0 are its decimal form, gone on
decimal_after : (m : ℕ) (digits : List ℕ) (n : ℕ) → 0 < m → n < 10 ^ 64 →
    natural_after m digits ≡ Some n → decimal m ++ digits ≡ decimal n
unfolding natural_after
decimal_after m [] n some small e = append-nil (decimal m) ∙ ap decimal cc
decimal_after m (b ∷ digits) n some small e =
    let p = passed (is_ascii_digit b) (natural_after (m * 10 + (b - 48)) digits) n e in
    let range = digit_range b p.0 in
    let low = range.0 in
    let high = range.1 in
    let on = grows (m * 10 + (b - 48)) digits n p.1 in
    let number = m * 10 + (b - 48) in
    let front : number / 10 ≡ m = omega arith in
    let last : 48 + number % 10 ≡ b = omega arith in
    sym (append_assoc (decimal m) (b ∷ []) digits)
    ∙ ap (λ form. form ++ digits)
    (sym (decimal_step_wide number (omega arith) (omega arith)
    ∙ ap (λ k. decimal k ++ (48 + number % 10) ∷ []) front
    ∙ ap (λ k. decimal m ++ k ∷ []) last))
    ∙ decimal_after number digits n (omega arith) small p.1

-- a plain number is the decimal form of its value
pub plain_is_decimal : (item : List ℕ) (n : ℕ) → n < 10 ^ 64 → plain_of item ≡ Some n →
    item ≡ decimal n
unfolding plain_of natural_of natural_after
plain_is_decimal [] n small e = absurd cc
plain_is_decimal (b ∷ []) n small e =
    let p = passed (is_ascii_digit b) (Some (0 * 10 + (b - 48))) n e in
    let range = digit_range b p.0 in
    let low = range.0 in
    let high = range.1 in
    let is : 0 * 10 + (b - 48) ≡ n = cc in
    let same : b ≡ 48 + n = omega arith in
    ap (λ k. k ∷ []) same ∙ sym (decimal_digit n (omega arith))
plain_is_decimal (b ∷ c ∷ digits) n small e =
    let t = passed (not (eqb b 48)) (natural_of (b ∷ c ∷ digits)) n e in
    let p = passed (is_ascii_digit b) (natural_after (0 * 10 + (b - 48)) (c ∷ digits)) n t.1 in
    let range = digit_range b p.0 in
    let low = range.0 in
    let high = range.1 in
    let other : b ≢ 48 = eqb-false b 48 (not-true (eqb b 48) t.0) in
    let number = 0 * 10 + (b - 48) in
    let same : b ≡ 48 + number = omega arith in
    ap (λ k. k ∷ c ∷ digits) same
    ∙ ap (λ form. form ++ c ∷ digits) (sym (decimal_digit number (omega arith)))
    ∙ decimal_after number (c ∷ digits) n (omega arith) small p.1

-- a decimal form has no needless 0 in front
plain_form : (n : ℕ) (digits : List ℕ) → IsForm n digits → is_plain digits ≡ true
plain_form n [] h = let some = h.some in absurd (omega arith)
plain_form n (b ∷ []) h = refl
plain_form n (b ∷ c ∷ digits) h =
    let many : 10 ≤ n = at_least (cases_lt n 10) in
    let first = h.first (omega arith) in
    ap not (ne_eqb b 48 (λ e. omega arith))
  where
    at_least : (n < 10) ⊎ (10 ≤ n) → 10 ≤ n
    at_least (inl l) = let one = h.single l in absurd (omega arith)
    at_least (inr l) = l

-- a decimal form is read as a natural number
pub natural_of-decimal : (n : ℕ) → n < 10 ^ 64 → natural_of (decimal n) ≡ Some n
natural_of-decimal n small =
    let form = decimal_form n small in
    natural_of-some (decimal n) form.some ∙ form.value

-- and as a plain one
pub decimal_is_plain : (n : ℕ) → n < 10 ^ 64 → plain_of (decimal n) ≡ Some n
unfolding plain_of
decimal_is_plain n small =
    ap (λ plain. cond plain (natural_of (decimal n)) None)
    (plain_form n (decimal n) (decimal_form n small))
    ∙ natural_of-decimal n small

-- its first byte is a digit
pub first_digit : (n : ℕ) → n < 10 ^ 64 → 48 ≤ get_or (decimal n) 0 0
first_digit n small =
    let form = decimal_form n small in
    let range = digit_range (get_or (decimal n) 0 0) (form.each 0 0 form.some) in
    range.0
