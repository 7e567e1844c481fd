-- Laws of the unit vectors: 1 at one place, and else 0.
-- What nothing here cites is for the crates of monomials and rewriting, which stand above.
use Rattle.std.proofs.Common.{List, [], ap, arith, false, length, refl, suc, sum, sym, zero, ℕ, ◌*◌, ◌++◌, ◌+◌, ◌<◌, ◌∙◌, ◌∷◌, ◌≡◌, ◌≤◌}
use Rattle.std.proofs.lemmas.List.Sums.{sum_by-cons}
use Rattle.mb_tables.proofs.VectorLaws.{at-minus, at-plus, at-zeros, length-minus, length-plus, length-zeros, plus-zeros, same, sum-zeros, times-zeros}
use Rattle.mb_tables.specs.Vectors.{all_zero, at, minus, plus, times, unit, zeros}

-- at its own place a unit has 1
pub unit-at : (n k : ℕ) → k < n → at (unit n k) k ≡ 1
unfolding unit
unit-at zero k h = absurd (omega arith)
unit-at (suc n) zero h = refl
unit-at (suc n) (suc k) h = unit-at n k (omega arith)

-- a unit is within each vector with a number above 0 at its place
pub unit-le : (n k i : ℕ) (m : List ℕ) → 0 < at m k → at (unit n k) i ≤ at m i
unfolding unit
unit-le zero k i m h = omega arith
unit-le (suc n) zero zero m h = h
unit-le (suc n) zero (suc i) m h = let e = at-zeros n i in omega arith
unit-le (suc n) (suc k) zero m h = omega arith
unit-le (suc n) (suc k) (suc i) [] h = absurd (omega arith)
unit-le (suc n) (suc k) (suc i) (x ∷ m) h = unit-le n k i m h

-- a unit adds up to 1
pub sum-unit : (n k : ℕ) → k < n → sum (unit n k) ≡ 1
unfolding unit
sum-unit zero k h = absurd (omega arith)
sum-unit (suc n) zero h = let e = sum-zeros n in omega (arith, sum_by-cons (λ n. n) 1 (zeros n))
sum-unit (suc n) (suc k) h =
    let e = sum-unit n k (omega arith) in omega (arith, sum_by-cons (λ n. n) 0 (unit n k))

-- a unit has as many places as asked
pub length-unit : (n k : ℕ) → length (unit n k) ≡ n
unfolding unit
length-unit zero k = refl
length-unit (suc n) zero = ap suc (length-zeros n)
length-unit (suc n) (suc k) = ap suc (length-unit n k)

-- a vector with a number above 0 at a place is one less there, and the unit
pub one_less : (n k : ℕ) (m : List ℕ) → length m ≡ n → 0 < at m k →
    m ≡ plus (minus m (unit n k)) (unit n k)
one_less n k m w h =
    same m (plus (minus m (unit n k)) (unit n k))
    (let a = length-plus (minus m (unit n k)) (unit n k) in
    let b = length-minus m (unit n k) in
    let c = length-unit n k in
    omega arith)
    (λ i. let a = unit-le n k i m h in
    omega (arith, at-plus (minus m (unit n k)) (unit n k) i, at-minus m (unit n k) i))

-- what makes a vector with the unit is that vector one less there
pub one_less-only : (n k : ℕ) (m p : List ℕ) → length m ≡ n → length p ≡ n →
    m ≡ plus p (unit n k) → minus m (unit n k) ≡ p
one_less-only n k m p w v e =
    same (minus m (unit n k)) p (length-minus m (unit n k) ∙ w ∙ sym v)
    (λ i. let a = ap (λ x. at x i) e in
    omega (arith, at-plus p (unit n k) i, at-minus m (unit n k) i))

-- a unit is not zero
pub unit-not_zero : (n k : ℕ) → k < n → all_zero (unit n k) ≡ false
unfolding unit all_zero
unit-not_zero zero k h = absurd (omega arith)
unit-not_zero (suc n) zero h = refl
unit-not_zero (suc n) (suc k) h = unit-not_zero n k (omega arith)

-- x units of the first place, in front of the other places
put_first : (x : ℕ) (u : List ℕ) → plus (times x (unit (suc (length u)) 0)) (0 ∷ u) ≡ x ∷ u
unfolding unit times plus
put_first x u =
    rw (times-zeros x (length u))
    (let e = plus-zeros (length u) u (omega arith) in let f : x * 1 + 0 ≡ x = omega arith in cc)

-- the same one place later, by the place before
put_later : (before x : ℕ) (u : List ℕ) →
    plus (times x (unit (before + suc (length u)) before)) (zeros (suc before) ++ u)
    ≡ zeros before ++ (x ∷ u) →
    plus (times x (unit (suc (before + suc (length u))) (suc before)))
    (0 ∷ (zeros (suc before) ++ u))
    ≡ 0 ∷ (zeros before ++ (x ∷ u))
unfolding unit times plus
put_later before x u h = let f : x * 0 + 0 ≡ 0 = omega arith in cc

-- a number after 0
zero_first : (n : ℕ) → 0 + suc n ≡ suc n
zero_first n = omega arith

-- a number after a successor
suc_first : (m n : ℕ) → suc m + n ≡ suc (m + n)
suc_first m n = omega arith

-- x units of a place and the numbers behind it make the vector with x at that place
pub cell-put : (before : ℕ) (x : ℕ) (u : List ℕ) →
    plus (times x (unit (before + suc (length u)) before)) (zeros (suc before) ++ u)
    ≡ zeros before ++ (x ∷ u)
unfolding zeros
cell-put zero x u = rw (zero_first (length u)) (put_first x u)
cell-put (suc before) x u =
    rw (suc_first before (suc (length u))) (put_later before x u (cell-put before x u))
