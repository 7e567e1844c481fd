-- Numbers that are equal up to multiples of 2^64.
use Rattle.mb_tables.specs.Step.{Adds}
use Rattle.std.proofs.Common.{◌<◌, List, [], length, refl, ◌∷◌, arith, ap, false, nat_abs, true, pos, negsuc, suc, sym, ℕ, ℤ, ◌%◌, ◌*◌, ◌+◌, ◌-◌, ◌+ℤ◌, ◌^◌, ◌∙◌, ◌≡◌}
use Rattle.std.proofs.Math.Nat.{mul-add, mul_assoc}
use Rattle.std.proofs.lemmas.Bool.{ltb-true}
use Rattle.std.proofs.lemmas.Int.{ints}
use Rattle.std.specs.Int.Signed.{lt_z}

-- a number plus what a product leaves is the number plus the product
pub plus_product : (x d p : ℕ) → (x + (d + p % 2 ^ 64) % 2 ^ 64) % 2 ^ 64 ≡ (x + p + d) % 2 ^ 64
plus_product x d p = omega arith

-- and the same for what is taken off
pub minus_product : (y d p : ℕ) →
    (y + p + (d + (2 ^ 64 - p % 2 ^ 64)) % 2 ^ 64) % 2 ^ 64 ≡ (y + d) % 2 ^ 64
minus_product y d p = omega arith

-- a place value times an entry that is not below 0 is added
pub added : (z : ℤ) (place delta n x y : ℕ) → lt_z z (pos 0) ≡ false → n ≡ nat_abs z →
    pos y ≡ (pos x +ℤ z) →
    (place * x + (delta + (place * n) % 2 ^ 64) % 2 ^ 64) % 2 ^ 64 ≡ (place * y + delta) % 2 ^ 64
added (pos m) place delta n x y h e f =
    let g : y ≡ x + m = omega (arith, ints) in
    let p : place * y ≡ place * x + place * n =
    ap (λ t. place * t) g ∙ mul-add place x m ∙ ap (λ t. place * x + place * t) (sym e) in
    plus_product (place * x) delta (place * n) ∙ ap (λ t. (t + delta) % 2 ^ 64) (sym p)
added (negsuc m) place delta n x y h e f = absurd (cc)

-- and one below 0 is taken off
pub taken : (z : ℤ) (place delta n x y : ℕ) → lt_z z (pos 0) ≡ true → n ≡ nat_abs z →
    pos y ≡ (pos x +ℤ z) →
    (place * x + (delta + (2 ^ 64 - (place * n) % 2 ^ 64)) % 2 ^ 64) % 2 ^ 64
    ≡ (place * y + delta) % 2 ^ 64
taken (pos m) place delta n x y h e f = absurd (omega (arith, ltb-true m 0 h))
taken (negsuc m) place delta n x y h e f =
    let g : x ≡ y + suc m = omega (arith, ints) in
    let p : place * x ≡ place * y + place * n =
    ap (λ t. place * t) g ∙ mul-add place y (suc m) ∙ ap (λ t. place * y + place * t) (sym e) in
    ap (λ t. (t + (delta + (2 ^ 64 - (place * n) % 2 ^ 64)) % 2 ^ 64) % 2 ^ 64) p
    ∙ minus_product (place * y) delta (place * n)

-- one digit more of the change of a key: a and b are the keys, m and n the numbers of the digits
-- from here on, and k and l those behind
pub congruent_step : (a b place radix x y k l delta next : ℕ) →
    (a + delta + place * (y + radix * l)) % 2 ^ 64 ≡ (b + place * (x + radix * k)) % 2 ^ 64 →
    (place * x + next) % 2 ^ 64 ≡ (place * y + delta) % 2 ^ 64 →
    (a + next + place * radix * l) % 2 ^ 64 ≡ (b + place * radix * k) % 2 ^ 64
congruent_step a b place radix x y k l delta next e f =
    let p : place * (y + radix * l) ≡ place * y + place * radix * l =
    mul-add place y (radix * l) ∙ ap (λ t. place * y + t) (sym (mul_assoc place radix l)) in
    let q : place * (x + radix * k) ≡ place * x + place * radix * k =
    mul-add place x (radix * k) ∙ ap (λ t. place * x + t) (sym (mul_assoc place radix k)) in
    congruent_sum a b (place * x) (place * y) (place * radix * k) (place * radix * l) delta next
    (ap (λ t. (a + delta + t) % 2 ^ 64) (sym p)
    ∙ e ∙ ap (λ t. (b + t) % 2 ^ 64) q) f
  where
    congruent_sum : (a b u v k l delta next : ℕ) →
        (a + delta + (v + l)) % 2 ^ 64 ≡ (b + (u + k)) % 2 ^ 64 →
        (u + next) % 2 ^ 64 ≡ (v + delta) % 2 ^ 64 →
        (a + next + l) % 2 ^ 64 ≡ (b + k) % 2 ^ 64
    congruent_sum a b u v k l delta next e f = omega arith

-- a step is made by a move of as many cells
pub adds_move-length : (u : List ℕ) (move : List ℤ) (v : List ℕ) → Adds u move v →
    length u ≡ length move
unfolding Adds
adds_move-length [] [] [] a = refl
adds_move-length [] [] (y ∷ v) a = absurd a
adds_move-length [] (z ∷ move) v a = absurd a
adds_move-length (x ∷ u) [] v a = absurd a
adds_move-length (x ∷ u) (z ∷ move) [] a = absurd a
adds_move-length (x ∷ u) (z ∷ move) (y ∷ v) a = ap suc (adds_move-length u move v a.1)

-- a key below 2^64 is the other key and the change
pub delta_added : (a b delta : ℕ) → b < 2 ^ 64 → (a + delta) % 2 ^ 64 ≡ b % 2 ^ 64 →
    b ≡ (a + delta) % 2 ^ 64
delta_added a b delta h e = omega arith

-- and the other way round
pub delta_taken : (a b delta : ℕ) → delta < 2 ^ 64 → b < 2 ^ 64 →
    (b + delta) % 2 ^ 64 ≡ a % 2 ^ 64 → b ≡ (a + (2 ^ 64 - delta)) % 2 ^ 64
delta_taken a b delta d h e = omega arith
