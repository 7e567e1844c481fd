-- Laws of vectors: the number at each place, the length and the sum of what `plus`, `minus`,
-- `greater`, `times`, `zeros` and the tests of specs/Vectors make.
-- What nothing here cites is for the crates of monomials and rewriting, which stand above.
use Rattle.std.proofs.Common.{Bool, List, [], ap, arith, drop, false, inl, inr, length, max, refl, suc, sum, take, true, zero, ℕ, ◌*◌, ◌++◌, ◌+◌, ◌-◌, ◌<◌, ◌∷◌, ◌≡◌, ◌≤◌, ◌⊎◌}
use Rattle.std.proofs.lemmas.Bool.{cases_lt}
use Rattle.std.proofs.lemmas.List.{get_or_past}
use Rattle.std.proofs.lemmas.List.Sums.{sum_by-cons}
use Rattle.mb_tables.proofs.ListLaws.{same_at}
use Rattle.mb_tables.specs.Vectors.{all_zero, at, greater, minus, plus, shares, times, within, zeros}

-- the empty vector may be added
pub plus-nil : (u : List ℕ) → u ≡ plus u []
unfolding plus
plus-nil [] = refl
plus-nil (x ∷ u) = refl

-- without its first d places a sum is the sum without them
pub drop-plus : (d : ℕ) (u v : List ℕ) → drop d (plus u v) ≡ plus (drop d u) (drop d v)
unfolding plus
drop-plus zero u v = refl
drop-plus (suc d) [] v = refl
drop-plus (suc d) (x ∷ u) [] = plus-nil (drop d u)
drop-plus (suc d) (x ∷ u) (y ∷ v) = drop-plus d u v

-- behind d zeros stands what was put there
pub drop-zeros : (d : ℕ) (u : List ℕ) → drop d (zeros d ++ u) ≡ u
unfolding zeros
drop-zeros zero u = refl
drop-zeros (suc d) u = drop-zeros d u

-- zeros with nothing behind them
pub zeros-append : (d : ℕ) → zeros d ++ [] ≡ zeros d
unfolding zeros
zeros-append zero = refl
zeros-append (suc d) = ap (λ l. 0 ∷ l) (zeros-append d)

-- each place of a vector of zeros has 0
pub at-zeros : (n k : ℕ) → at (zeros n) k ≡ 0
unfolding zeros
at-zeros zero k = refl
at-zeros (suc n) zero = refl
at-zeros (suc n) (suc k) = at-zeros n k

-- n zeros are n places
pub length-zeros : (n : ℕ) → length (zeros n) ≡ n
unfolding zeros
length-zeros zero = refl
length-zeros (suc n) = ap suc (length-zeros n)

-- a multiple, place by place
pub at-times : (n : ℕ) (u : List ℕ) (k : ℕ) → at (times n u) k ≡ n * at u k
unfolding times
at-times n [] k = omega arith
at-times n (x ∷ u) zero = refl
at-times n (x ∷ u) (suc k) = at-times n u k

-- a multiple has as many places
pub length-times : (n : ℕ) (u : List ℕ) → length (times n u) ≡ length u
unfolding times
length-times n [] = refl
length-times n (x ∷ u) = ap suc (length-times n u)

-- a vector with 0 at each place passes the test
pub all_zero-yes : (u : List ℕ) → ((k : ℕ) → at u k ≡ 0) → all_zero u ≡ true
unfolding all_zero
all_zero-yes [] h = refl
all_zero-yes (zero ∷ u) h = all_zero-yes u (λ k. h (suc k))
all_zero-yes (suc x ∷ u) h = let e = h 0 in cc

-- a vector with 0 at each of its places passes the test
pub all_zero-places : (u : List ℕ) → ((k : ℕ) → k < length u → at u k ≡ 0) → all_zero u ≡ true
unfolding all_zero
all_zero-places [] h = refl
all_zero-places (zero ∷ u) h = all_zero-places u (λ k l. h (suc k) (omega arith))
all_zero-places (suc x ∷ u) h = let e = h 0 (omega arith) in cc

-- a vector with a number above 0 at some place fails it
pub all_zero-no : (u : List ℕ) (k : ℕ) → 0 < at u k → all_zero u ≡ false
unfolding all_zero
all_zero-no [] k h = absurd (omega arith)
all_zero-no (zero ∷ u) zero h = absurd (omega arith)
all_zero-no (zero ∷ u) (suc k) h = all_zero-no u k h
all_zero-no (suc x ∷ u) k h = refl

-- a vector that passes it has 0 at each place
pub all_zero-at : (u : List ℕ) → all_zero u ≡ true → (k : ℕ) → at u k ≡ 0
unfolding all_zero
all_zero-at [] h k = refl
all_zero-at (zero ∷ u) h zero = refl
all_zero-at (zero ∷ u) h (suc k) = all_zero-at u h k
all_zero-at (suc x ∷ u) h k = cc

-- a vector that fails it has a number above 0 at some place
pub some_place : (u : List ℕ) → all_zero u ≡ false → (k : ℕ) × (k < length u) × (0 < at u k)
unfolding all_zero
some_place [] h = cc
some_place (zero ∷ u) h = let r = some_place u h in (suc r.0, omega arith, r.2)
some_place (suc x ∷ u) h = (0, omega arith, omega arith)

-- a vector that is no greater at each place passes the test
pub within-yes : (u v : List ℕ) → ((k : ℕ) → at u k ≤ at v k) → within u v ≡ true
unfolding within
within-yes [] v h = refl
within-yes (zero ∷ u) [] h = within-yes u [] (λ k. h (suc k))
within-yes (suc x ∷ u) [] h = let e = h 0 in absurd (omega arith)
within-yes (x ∷ u) (y ∷ v) h =
    let r = within-yes u v (λ k. h (suc k)) in let e = h 0 in grind arith

-- one that is no greater at each of its own places passes it
pub within-places : (u v : List ℕ) → ((k : ℕ) → k < length u → at u k ≤ at v k) →
    within u v ≡ true
within-places u v h =
    within-yes u v (λ k. elim (cases_lt k (length u)) [
      | inl l ↦ h k l
      | inr l ↦ let e = get_or_past u k 0 l in omega arith
    ])

-- one that passes it is no greater at each place
pub within-at : (u v : List ℕ) → within u v ≡ true → (k : ℕ) → at u k ≤ at v k
unfolding within
within-at [] v h k = omega arith
within-at (zero ∷ u) [] h zero = omega arith
within-at (zero ∷ u) [] h (suc k) = within-at u [] h k
within-at (suc x ∷ u) [] h k = cc
within-at (x ∷ u) (y ∷ v) h zero = grind arith
within-at (x ∷ u) (y ∷ v) h (suc k) = within-at u v (grind arith) k

-- one that is greater at some place fails it
pub within-no : (u v : List ℕ) (k : ℕ) → at v k < at u k → within u v ≡ false
within-no u v k h = by (within u v) refl
  where
    by : (t : Bool) → within u v ≡ t → t ≡ false
    by true e = let g = within-at u v e k in absurd (omega arith)
    by false e = refl

-- zeros add up to 0
pub sum-zeros : (n : ℕ) → sum (zeros n) ≡ 0
unfolding zeros
sum-zeros zero = refl
sum-zeros (suc n) = let e = sum-zeros n in omega (arith, sum_by-cons (λ n. n) 0 (zeros n))

-- a vector has a number above 0 at some place, or 0 at each
pub zero_or_place : (u : List ℕ) →
    ((k : ℕ) × (k < length u) × (0 < at u k)) ⊎ ((k : ℕ) → at u k ≡ 0)
zero_or_place [] = inr (λ k. refl)
zero_or_place (zero ∷ u) =
    elim (zero_or_place u) [
      | inl r ↦ inl (suc r.0, omega arith, r.2)
      | inr h ↦ inr (elim [ zero ↦ refl | suc k ↦ h k ])
    ]
zero_or_place (suc x ∷ u) = inl (0, omega arith, omega arith)

-- the numbers of a sum add up to those of both vectors
pub sum-plus : (a b : List ℕ) → sum (plus a b) ≡ sum a + sum b
unfolding plus
sum-plus [] b = omega arith
sum-plus (x ∷ a) [] = omega arith
sum-plus (x ∷ a) (y ∷ b) =
    let e = sum-plus a b in
    omega (
      arith,
      sum_by-cons (λ n. n) (x + y) (plus a b),
      sum_by-cons (λ n. n) x a,
      sum_by-cons (λ n. n) y b,
    )

-- the first d places of a sum are the sum of those
pub take-plus : (d : ℕ) (u v : List ℕ) → take d (plus u v) ≡ plus (take d u) (take d v)
unfolding plus
take-plus zero u v = refl
take-plus (suc d) [] v = refl
take-plus (suc d) (x ∷ u) [] = refl
take-plus (suc d) (x ∷ u) (y ∷ v) = ap (λ l. (x + y) ∷ l) (take-plus d u v)

-- a sum, place by place
pub at-plus : (u v : List ℕ) (k : ℕ) → at (plus u v) k ≡ at u k + at v k
unfolding plus
at-plus [] v k = omega arith
at-plus (x ∷ u) [] k = omega arith
at-plus (x ∷ u) (y ∷ v) zero = refl
at-plus (x ∷ u) (y ∷ v) (suc k) = at-plus u v k

-- a difference, place by place
pub at-minus : (u v : List ℕ) (k : ℕ) → at (minus u v) k ≡ at u k - at v k
unfolding minus
at-minus [] v k = omega arith
at-minus (x ∷ u) [] k = omega arith
at-minus (x ∷ u) (y ∷ v) zero = refl
at-minus (x ∷ u) (y ∷ v) (suc k) = at-minus u v k

-- the greater of two vectors, place by place
pub at-greater : (u v : List ℕ) (k : ℕ) → at (greater u v) k ≡ max (at u k) (at v k)
unfolding greater
at-greater [] v k = omega arith
at-greater (x ∷ u) [] k = omega arith
at-greater (x ∷ u) (y ∷ v) zero = refl
at-greater (x ∷ u) (y ∷ v) (suc k) = at-greater u v k

-- a sum has as many places as the longer of its parts
pub length-plus : (u v : List ℕ) → length (plus u v) ≡ max (length u) (length v)
unfolding plus
length-plus [] v = omega arith
length-plus (x ∷ u) [] = omega arith
length-plus (x ∷ u) (y ∷ v) = let e = length-plus u v in omega arith

-- a difference has as many places as what it is taken from
pub length-minus : (u v : List ℕ) → length (minus u v) ≡ length u
unfolding minus
length-minus [] v = refl
length-minus (x ∷ u) [] = refl
length-minus (x ∷ u) (y ∷ v) = ap suc (length-minus u v)

-- the greater of two vectors has as many places as the longer of them
pub length-greater : (u v : List ℕ) → length (greater u v) ≡ max (length u) (length v)
unfolding greater
length-greater [] v = omega arith
length-greater (x ∷ u) [] = omega arith
length-greater (x ∷ u) (y ∷ v) = let e = length-greater u v in omega arith

-- vectors of one length are equal where they are equal at each place
pub same : (u v : List ℕ) → length u ≡ length v → ((k : ℕ) → at u k ≡ at v k) → u ≡ v
same u v e h = same_at 0 u v e (λ k l. h k)

-- vectors of one length are equal where they are equal at each of their places
pub same_places : (u v : List ℕ) → length u ≡ length v →
    ((k : ℕ) → k < length u → at u k ≡ at v k) → u ≡ v
same_places u v e h = same_at 0 u v e h

-- a sum is the same with its parts swapped
pub plus-comm : (u v : List ℕ) → plus u v ≡ plus v u
plus-comm u v =
    same (plus u v) (plus v u) (omega (arith, length-plus)) (λ k. omega (arith, at-plus))

-- a sum of three vectors is the same from either side
pub plus-assoc : (u v w : List ℕ) → plus (plus u v) w ≡ plus u (plus v w)
plus-assoc u v w =
    same (plus (plus u v) w) (plus u (plus v w)) (omega (arith, length-plus))
    (λ k. omega (arith, at-plus))

-- vectors that share no place have a 0 at each, the one or the other
pub shares-no : (u v : List ℕ) → shares u v ≡ false → (k : ℕ) → (at u k ≡ 0) ⊎ (at v k ≡ 0)
unfolding shares
shares-no [] v e k = inl refl
shares-no (x ∷ u) [] e k = inr refl
shares-no (zero ∷ u) (y ∷ v) e zero = inl refl
shares-no (suc x ∷ u) (zero ∷ v) e zero = inr refl
shares-no (suc x ∷ u) (suc y ∷ v) e zero = cc
shares-no (zero ∷ u) (y ∷ v) e (suc k) = shares-no u v e k
shares-no (suc x ∷ u) (zero ∷ v) e (suc k) = shares-no u v e k
shares-no (suc x ∷ u) (suc y ∷ v) e (suc k) = cc

-- sums of two parts, part by part
pub plus-append : (u v w x : List ℕ) → length u ≡ length w →
    plus (u ++ v) (w ++ x) ≡ plus u w ++ plus v x
unfolding plus
plus-append [] v [] x e = refl
plus-append [] v (b ∷ w) x e = absurd (omega arith)
plus-append (a ∷ u) v [] x e = absurd (omega arith)
plus-append (a ∷ u) v (b ∷ w) x e = ap (λ l. (a + b) ∷ l) (plus-append u v w x (omega arith))

-- a multiple of two parts, part by part
pub times-append : (n : ℕ) (u v : List ℕ) → times n (u ++ v) ≡ times n u ++ times n v
unfolding times
times-append n [] v = refl
times-append n (x ∷ u) v = ap (λ l. (n * x) ∷ l) (times-append n u v)

-- a multiple of zeros
pub times-zeros : (n d : ℕ) → times n (zeros d) ≡ zeros d
unfolding times zeros
times-zeros n zero = refl
times-zeros n (suc d) = let e = times-zeros n d in let f : n * 0 ≡ 0 = omega arith in cc

-- zeros may be added
pub plus-zeros : (d : ℕ) (u : List ℕ) → d ≤ length u → plus (zeros d) u ≡ u
unfolding plus zeros
plus-zeros zero u h = refl
plus-zeros (suc d) [] h = absurd (omega arith)
plus-zeros (suc d) (x ∷ u) h =
    let e = plus-zeros d u (omega arith) in let f : 0 + x ≡ x = omega arith in cc

-- no times a vector is zeros
pub times-none : (u : List ℕ) → times 0 u ≡ zeros (length u)
unfolding times zeros
times-none [] = refl
times-none (x ∷ u) = let e = times-none u in let f : 0 * x ≡ 0 = omega arith in cc

-- once more than n times a vector
pub times-more : (n : ℕ) (u : List ℕ) → times (suc n) u ≡ plus u (times n u)
unfolding times plus
times-more n [] = refl
times-more n (x ∷ u) =
    let e = times-more n u in let f : suc n * x ≡ x + n * x = omega arith in cc
