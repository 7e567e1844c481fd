-- The multinomial coefficient as a product of binomial ones.
use Rattle.std.proofs.Common.{List, [], ap, arith, map, refl, sum, sym, ℕ, ◌*◌, ◌+◌, ◌/◌, ◌∙◌, ◌∷◌, ◌≡◌, ◌≤◌}
use Rattle.std.proofs.Math.Nat.{mul-div_cancel, mul-le-mul}
use Rattle.std.proofs.lemmas.List.Sums.{sum_by-cons}
use Rattle.mb_weights.proofs.Binomials.{factorial_above, factorial-zero, ways_exact}
use Rattle.mb_weights.specs.Binomial.{ways}
use Rattle.mb_weights.specs.Weight.{factorial, multinomial, product}

-- a product of binomial coefficients: each count among itself and those behind it
unfoldable pub chained : List ℕ → ℕ
chained [] = 1
chained (x ∷ u) = ways (sum u) x * chained u

-- one count in front
chained-cons : (x : ℕ) (u : List ℕ) → chained (x ∷ u) ≡ ways (sum u) x * chained u
unfolding chained
chained-cons x u = refl

-- one number in front
pub product-cons : (x : ℕ) (u : List ℕ) → product (x ∷ u) ≡ x * product u
unfolding product
product-cons x u = refl

-- the sum with one number in front
sum-cons : (x : ℕ) (u : List ℕ) → sum (x ∷ u) ≡ x + sum u
sum-cons x u = sum_by-cons (λ x. x) x u

-- of no counts
none : chained [] * product [] ≡ 1
unfolding chained product
none = refl

-- the product of no numbers
pub product-nil : product [] ≡ 1
unfolding product
product-nil = refl

-- the product of factorials of counts
abbrev pub factorials : List ℕ → ℕ
factorials u = product (map factorial u)

-- it is not 0
factorials_above : (u : List ℕ) → 1 ≤ factorials u
unfolding product
factorials_above [] = omega arith
factorials_above (x ∷ u) = mul-le-mul {n₁ = 1} {m₁ = 1} (factorial_above x) (factorials_above u)

-- it divides the factorial of their sum that often
chained_exact : (u : List ℕ) → chained u * factorials u ≡ factorial (sum u)
chained_exact [] = none ∙ sym factorial-zero
chained_exact (x ∷ u) =
    let e = chained_exact u in
    let f = ways_exact (sum u) x in
    let g = chained-cons x u in
    let h = product-cons (factorial x) (map factorial u) in
    let i : sum u + x ≡ sum (x ∷ u) = let s = sum-cons x u in omega arith in
    let j = ap (λ t. ways (sum u) x * factorial x * t) e in
    let k = ap factorial i in
    rw (g, h) (omega arith)

-- so it is the multinomial coefficient
pub multinomial_chained : (u : List ℕ) → multinomial u ≡ chained u
multinomial_chained u =
    ap (λ t. t / factorials u) (sym (chained_exact u))
    ∙ mul-div_cancel (chained u) (factorials_above u)

-- the division leaves no remainder
pub multinomial_exact : (u : List ℕ) → multinomial u * factorials u ≡ factorial (sum u)
multinomial_exact u = ap (λ t. t * factorials u) (multinomial_chained u) ∙ chained_exact u

-- the coefficient of no counts
pub multinomial-nil : multinomial [] ≡ 1
unfolding chained
multinomial-nil = multinomial_chained []

-- one count in front
pub multinomial-cons : (x : ℕ) (u : List ℕ) →
    multinomial (x ∷ u) ≡ ways (sum u) x * multinomial u
multinomial-cons x u =
    multinomial_chained (x ∷ u) ∙ chained-cons x u
    ∙ ap (λ t. ways (sum u) x * t) (sym (multinomial_chained u))
