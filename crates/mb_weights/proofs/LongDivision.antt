-- Long division, digit by digit.
use Rattle.std.proofs.Common.{[], ap, arith, inl, inr, refl, suc, zero, ℕ, ◌*◌, ◌++◌, ◌+◌, ◌/◌, ◌<◌, ◌^◌, ◌∙◌, ◌∷◌, ◌≡◌}
use Rattle.std.proofs.Math.Nat.{mul-le-mul_right}
use Rattle.std.proofs.lemmas.Bool.{cases_lt}
use Rattle.std.proofs.lemmas.Nat.{div-mul-add, mod-mul-add}
use Rattle.mb_weights.specs.Decimals.{digits}

-- no digits
digits-zero : (n : ℕ) → digits zero n ≡ []
unfolding digits
digits-zero n = refl

-- the last k + 1 digits of a number with a further digit behind it
digits-suc : (k q d : ℕ) → d < 10 → digits (suc k) (q * 10 + d) ≡ digits k q ++ (48 + d) ∷ []
unfolding digits
digits-suc k q d small = rw (div-mul-add q 10 d small, mod-mul-add q 10 d small) refl

-- a further digit of a quotient
further : (n den q r d s : ℕ) → n ≡ q * den + r → 10 * r ≡ d * den + s →
    n * 10 ≡ (q * 10 + d) * den + s
further n den q r d s e f = let g = ap (λ t. t * 10) e in omega arith

-- so many tens and a digit, as a digit at a time
abbrev pub six : ℕ → ℕ → ℕ → ℕ → ℕ → ℕ → ℕ
six a b c d e f = (((((0 * 10 + a) * 10 + b) * 10 + c) * 10 + d) * 10 + e) * 10 + f

-- the digits of such a number
six_digits : (a b c d e f : ℕ) → a < 10 → b < 10 → c < 10 → d < 10 → e < 10 → f < 10 →
    digits 6 (six a b c d e f)
    ≡ (48 + a) ∷ (48 + b) ∷ (48 + c) ∷ (48 + d) ∷ (48 + e) ∷ (48 + f) ∷ []
six_digits a b c d e f i j k l m n =
    rw (
      digits-suc 5 _ f n,
      digits-suc 4 _ e m,
      digits-suc 3 _ d l,
      digits-suc 2 _ c k,
      digits-suc 1 _ b j,
      digits-suc 0 0 a i,
      digits-zero 0,
    ) refl

-- the digits of a quotient below 1
pub quotient_digits : (n den a b c d e f r s t u v w : ℕ) →
    10 * n ≡ a * den + r → 10 * r ≡ b * den + s → 10 * s ≡ c * den + t →
    10 * t ≡ d * den + u → 10 * u ≡ e * den + v → 10 * v ≡ f * den + w → w < den →
    a < 10 → b < 10 → c < 10 → d < 10 → e < 10 → f < 10 →
    digits 6 (n * 10 ^ 6 / den)
    ≡ (48 + a) ∷ (48 + b) ∷ (48 + c) ∷ (48 + d) ∷ (48 + e) ∷ (48 + f) ∷ []
quotient_digits n den a b c d e f r s t u v w ha hb hc hd he hf below i j k l m o =
    let first = further n den 0 n a r (omega arith) ha in
    let second = further (n * 10) den _ r b s first hb in
    let third = further (n * 10 * 10) den _ s c t second hc in
    let fourth = further (n * 10 * 10 * 10) den _ t d u third hd in
    let fifth = further (n * 10 * 10 * 10 * 10) den _ u e v fourth he in
    let sixth = further (n * 10 * 10 * 10 * 10 * 10) den _ v f w fifth hf in
    let all : n * 10 ^ 6 ≡ six a b c d e f * den + w = omega (arith, sixth) in
    ap (digits 6) (ap (λ x. x / den) all ∙ div-mul-add (six a b c d e f) den w below)
    ∙ six_digits a b c d e f i j k l m o

-- a digit of a quotient below 1
pub digit_small : (x den d r : ℕ) → x < den → 10 * x ≡ d * den + r → d < 10
digit_small x den d r below e =
    elim (cases_lt d 10) [
      | inl small ↦ small
      | inr large ↦ let f = mul-le-mul_right den large in absurd (omega arith)
    ]
