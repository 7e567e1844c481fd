-- Binomial coefficients by Pascal's rule, and the multinomial coefficient as a product of them.
use Rattle.std.proofs.Common.{add-one, ap, arith, inl, inr, refl, suc, sym, zero, ℕ, ◌*◌, ◌%◌, ◌+◌, ◌^◌, ◌-◌, ◌/◌, ◌<◌, ◌∙◌, ◌≡◌, ◌≤◌}
use Rattle.std.proofs.lemmas.Bool.{cases_lt}
use Rattle.std.proofs.Math.Nat.{pow-suc, pow-zero, add-mul-div_right, mod-add-div', mul-le-mul, mul-div_cancel}
use Rattle.mb_weights.specs.Binomial.{ways}
use Rattle.mb_weights.specs.Weight.{factorial}

-- Pascal's rule
pub ways-suc : (n k : ℕ) → ways (suc n) (suc k) ≡ ways n (suc k) + ways (suc n) k
unfolding ways
ways-suc n k = refl

-- nothing is chosen in one way
pub ways-zero : (n : ℕ) → ways n zero ≡ 1
unfolding ways
ways-zero zero = refl
ways-zero (suc n) = refl

-- with nothing left, everything is chosen
pub ways-none : (k : ℕ) → ways zero k ≡ 1
unfolding ways
ways-none k = refl

-- 0!
pub factorial-zero : factorial zero ≡ 1
unfolding factorial
factorial-zero = refl

-- (n + 1)!
pub factorial-suc : (n : ℕ) → factorial (suc n) ≡ suc n * factorial n
unfolding factorial
factorial-suc n = refl

-- no factorial is 0
pub factorial_above : (n : ℕ) → 1 ≤ factorial n
factorial_above zero = let e = factorial-zero in omega arith
factorial_above (suc n) =
    let e = factorial-suc n in
    let f = factorial_above n in
    let g : 1 * 1 ≤ suc n * factorial n = mul-le-mul {n₁ = 1} {m₁ = 1} (omega arith) f in
    omega arith

-- no binomial coefficient is 0
pub ways_above : (n k : ℕ) → 1 ≤ ways n k
ways_above zero k = let e = ways-none k in omega arith
ways_above (suc n) zero = let e = ways-zero (suc n) in omega arith
ways_above (suc n) (suc k) =
    let e = ways-suc n k in
    let f = ways_above (suc n) k in omega arith

-- the step of the induction below, in plain numbers
pascal_step : (n k a b p q r : ℕ) →
    a * (p * (suc k * q)) ≡ r → b * ((suc n * p) * q) ≡ r →
    (a + b) * ((suc n * p) * (suc k * q)) ≡ (suc n + suc k) * r
pascal_step n k a b p q r e f =
    let g : suc n * (a * (p * (suc k * q))) ≡ suc n * r = ap (λ t. suc n * t) e in
    let h : suc k * (b * ((suc n * p) * q)) ≡ suc k * r = ap (λ t. suc k * t) f in
    omega arith

-- (n + k choose k) n! k! is (n + k)!
pub ways_exact : (n k : ℕ) → ways n k * (factorial n * factorial k) ≡ factorial (n + k)
ways_exact zero k =
    let e = ways-none k in
    let f = factorial-zero in
    let g : zero + k ≡ k = omega arith in
    rw (e, f, g) (omega arith)
ways_exact (suc n) zero =
    let e = ways-zero (suc n) in
    let f = factorial-zero in
    let g : suc n + zero ≡ suc n = omega arith in
    rw (e, f, g) (omega arith)
ways_exact (suc n) (suc k) =
    let e = ways_exact n (suc k) in
    let f = ways_exact (suc n) k in
    let i : n + suc k ≡ suc n + k = omega arith in
    let j : suc n + suc k ≡ suc (suc n + k) = omega arith in
    let s = pascal_step n k (ways n (suc k)) (ways (suc n) k) (factorial n) (factorial k)
    (factorial (suc n + k))
    (rw (← factorial-suc k, ← i) e) (rw (← factorial-suc n) f) in
    rw (ways-suc n k, factorial-suc n, factorial-suc k, j, factorial-suc (suc n + k), ← j) s

-- the same, with the two parts swapped
pub ways_swap : (n k : ℕ) → ways n k ≡ ways k n
ways_swap n k =
    let e = ways_exact n k in
    let f = ways_exact k n in
    let g : k + n ≡ n + k = omega arith in
    let above : 0 < factorial n * factorial k =
    mul-le-mul {n₁ = 1} {m₁ = 1} (factorial_above n) (factorial_above k) in
    let h : ways n k * (factorial n * factorial k) ≡ ways k n * (factorial n * factorial k) =
    e ∙ sym (ap factorial g) ∙ sym f ∙ omega arith in
    sym (mul-div_cancel (ways n k) above) ∙ ap (λ t. t / (factorial n * factorial k)) h
    ∙ mul-div_cancel (ways k n) above

-- the next one from the last, which leaves no remainder
pub ways_next : (n k : ℕ) → ways n k * (n + suc k) / suc k ≡ ways n (suc k)
ways_next n k =
    let above : 0 < factorial n * factorial k =
    mul-le-mul {n₁ = 1} {m₁ = 1} (factorial_above n) (factorial_above k) in
    let i : n + suc k ≡ suc (n + k) = omega arith in
    let e = ap (λ t. suc (n + k) * t) (ways_exact n k) in
    let f = ways_exact n (suc k) in
    let g = factorial-suc k in
    let j = ap factorial i ∙ factorial-suc (n + k) in
    let h = rw (j, g) at f in
    let s : (ways n k * (n + suc k)) * (factorial n * factorial k)
    ≡ (ways n (suc k) * suc k) * (factorial n * factorial k) = omega arith in
    let t : ways n k * (n + suc k) ≡ ways n (suc k) * suc k =
    sym (mul-div_cancel (ways n k * (n + suc k)) above)
    ∙ ap (λ t. t / (factorial n * factorial k)) s
    ∙ mul-div_cancel (ways n (suc k) * suc k) above in
    ap (λ t. t / suc k) t ∙ mul-div_cancel (ways n (suc k)) (omega arith)

-- one thing more to choose
ways_step : (n k : ℕ) → ways n k ≤ ways n (suc k)
ways_step zero k =
    let e = ways-none k in
    let f = ways-none (suc k) in omega arith
ways_step (suc n) k = let e = ways-suc n k in omega arith

-- and several
ways_steps : (n k more : ℕ) → ways n k ≤ ways n (k + more)
ways_steps n k zero = let e : k + zero ≡ k = omega arith in rw e (omega arith)
ways_steps n k (suc more) =
    let e : k + suc more ≡ suc (k + more) = omega arith in
    let f = ways_steps n k more in
    let g = ways_step n (k + more) in rw e (omega arith)

-- more things are chosen in no fewer ways
pub ways_grow : (n i k : ℕ) → i ≤ k → ways n i ≤ ways n k
ways_grow n i k h =
    let e : i + (k - i) ≡ k = omega arith in
    let f = ways_steps n i (k - i) in rw (← e) f

-- with each thing they at least double, as long as no more are chosen than left
pub ways_double : (n k : ℕ) → k ≤ n → 2 ^ k ≤ ways n k
ways_double zero k h =
    let e : k ≡ zero = omega arith in
    let f = ways-zero zero in
    let g = pow-zero 2 in rw e (omega arith)
ways_double (suc n) zero h =
    let e = ways-zero (suc n) in
    let f = pow-zero 2 in omega arith
ways_double (suc n) (suc k) h =
    let e = ways-suc n k in
    let f = pow-suc 2 k in
    let back = ways_double (suc n) k (omega arith) in
    elim (cases_lt k n) [
      | inl less ↦
          let up = ways_double n (suc k) less in omega arith
      | inr top ↦
          let same : k ≡ n = omega arith in
          let swap = ways_swap n (suc n) in
          let up = rw same at back in
          let i = ap (λ t. ways n (suc t)) same in
          let j = ap (λ t. 2 ^ t) same in omega arith
    ]

-- a product over a number, cut off, by the quotient and the remainder of its first factor
pub scaled_parts : (value top by : ℕ) → 0 < by →
    value * top / by ≡ value / by * top + value % by * top / by
scaled_parts value top by above =
    let e = mod-add-div' value by in
    let f : value * top ≡ value % by * top + value / by * top * by =
    ap (λ t. t * top) (sym e) ∙ omega arith in
    let g = add-mul-div_right (value % by * top) (value / by * top) above in
    ap (λ t. t / by) f ∙ g ∙ omega arith

-- a step of the code: from the ways to choose k things to those for one more
pub ways_more : (n k found : ℕ) → found ≡ ways n k →
    found * (n + (k + 1)) / (k + 1) ≡ ways n (k + 1)
ways_more n k found e = rw (e, add-one) (ways_next n k)

-- the quotient of factorials
pub ways_quotient : (n k : ℕ) → ways n k ≡ factorial (n + k) / (factorial n * factorial k)
ways_quotient n k =
    let above : 0 < factorial n * factorial k =
    mul-le-mul {n₁ = 1} {m₁ = 1} (factorial_above n) (factorial_above k) in
    sym (mul-div_cancel (ways n k) above)
    ∙ ap (λ t. t / (factorial n * factorial k)) (ways_exact n k)
