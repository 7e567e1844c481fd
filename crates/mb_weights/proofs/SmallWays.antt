-- Pascal's triangle of small numbers, filled place by place.
use Rattle.std.proofs.Common.{List, ap, arith, inl, inr, length-set, replicate, set, suc, sym, zero, ℕ, ◌*◌, ◌+◌, ◌-◌, ◌<◌, ◌^◌, ◌∙◌, ◌≡◌, ◌≤◌, ◌⊎◌}
use Rattle.std.proofs.Math.Nat.{one-le-pow, pow-le-pow_right, pow-suc}
use Rattle.std.proofs.lemmas.Bool.{cases_eq}
use Rattle.std.proofs.lemmas.List.{get_or-replicate, get_or-set_other, get_or-set_same, length-replicate}
use Rattle.mb_tables.specs.Vectors.{at}
use Rattle.mb_weights.proofs.Binomials.{ways-none, ways-suc, ways-zero}
use Rattle.mb_weights.specs.Binomial.{ways}
use Rattle.mb_weights.specs.loops.SmallWays.{AreWaysBelow, kept_ways}

-- no more ways than there are sets of all things
ways_within : (n k : ℕ) → ways n k ≤ 2 ^ (n + k)
ways_within zero k =
    let e = ways-none k in
    let f = one-le-pow (zero + k) 2 (omega arith) in omega arith
ways_within (suc n) zero =
    let e = ways-zero (suc n) in
    let f = one-le-pow (suc n + zero) 2 (omega arith) in omega arith
ways_within (suc n) (suc k) =
    let e = ways-suc n k in
    let i : n + suc k ≡ suc n + k = omega arith in
    let j : suc n + suc k ≡ suc (suc n + k) = omega arith in
    let f = rw i at (ways_within n (suc k)) in
    let g = ways_within (suc n) k in
    rw (j, pow-suc 2 (suc n + k)) (omega (arith, e, f, g))

-- those of small numbers have 64 bits
pub small_fits : (rest count : ℕ) → rest < kept_ways → count < kept_ways →
    ways rest count < 2 ^ 64
small_fits rest count l m =
    let e = ways_within rest count in
    let f = pow-le-pow_right {n = 2} (omega arith) {i = rest + count} {j = 62} (omega arith) in
    omega (arith, e, f)

-- Pascal's rule, from the numbers above and to the left
ways_sum : (n k : ℕ) → 1 ≤ n → 1 ≤ k → ways (n - 1) k + ways n (k - 1) ≡ ways n k
ways_sum zero k h l = absurd (omega arith)
ways_sum (suc n) zero h l = absurd (omega arith)
ways_sum (suc n) (suc k) h l =
    let i : suc n - 1 ≡ n = omega arith in
    let j : suc k - 1 ≡ k = omega arith in
    rw (i, j) (sym (ways-suc n k))

-- the places above and to the left give the next one
pub next_entry : (table : List ℕ) (row count : ℕ) → 1 ≤ row → 1 ≤ count → count < kept_ways →
    AreWaysBelow table (kept_ways * row + count) →
    at table (kept_ways * row + count - kept_ways) + at table (kept_ways * row + count - 1)
    ≡ ways row count
next_entry table row count h l small t =
    let i : kept_ways * row + count - kept_ways ≡ kept_ways * (row - 1) + count = omega arith in
    let j : kept_ways * row + count - 1 ≡ kept_ways * row + (count - 1) = omega arith in
    let e = t.each (row - 1) count small (omega arith) in
    let f = t.each row (count - 1) (omega arith) (omega arith) in
    rw (i, j, e, f) (ways_sum row count h l)

-- the first row
pub ways-first : AreWaysBelow (replicate 1024 1) kept_ways
ways-first = record {
  each_kept = length-replicate {A = ℕ} 1024 1;
  each = λ rest count small below.
      let first : rest ≡ zero = omega arith in
      get_or-replicate {A = ℕ} 1024 (kept_ways * rest + count) 1 0 (omega arith)
      ∙ sym (ap (λ n. ways n count) first ∙ ways-none count);
}

-- one place more is filled
pub ways-written : (table : List ℕ) (row count entry : ℕ) →
    row < kept_ways → count < kept_ways → AreWaysBelow table (kept_ways * row + count) →
    entry ≡ ways row count →
    AreWaysBelow (set table (kept_ways * row + count) entry) (kept_ways * row + (count + 1))
ways-written table row count entry l m t is = record {
  each_kept = length-set table (kept_ways * row + count) entry ∙ t.each_kept;
  each = λ r k small below.
      by r k small below (cases_eq (kept_ways * r + k) (kept_ways * row + count));
}
  where
    by : (r k : ℕ) → k < kept_ways → kept_ways * r + k < kept_ways * row + (count + 1) →
        (kept_ways * r + k ≡ kept_ways * row + count)
        ⊎ (kept_ways * r + k ≡ kept_ways * row + count → ⊥) →
        at (set table (kept_ways * row + count) entry) (kept_ways * r + k) ≡ ways r k
    by r k small below (inl same) =
        let kept = t.each_kept in
        let e : r ≡ row = omega arith in
        let f : k ≡ count = omega arith in
        rw (e, f) (get_or-set_same table (kept_ways * row + count) entry 0 (omega arith) ∙ is)
    by r k small below (inr other) =
        get_or-set_other table (kept_ways * row + count) (kept_ways * r + k) entry 0 other
        ∙ t.each r k small (omega arith)

-- the first place of a row, where nothing is chosen
pub row-begun : (table : List ℕ) (row : ℕ) → row < kept_ways →
    AreWaysBelow table (kept_ways * row) →
    AreWaysBelow (set table (kept_ways * row) 1) (kept_ways * row + 1)
row-begun table row l t =
    let e : kept_ways * row + 0 ≡ kept_ways * row = omega arith in
    rw e at (ways-written table row 0 1 l (omega arith) (rw e t) (sym (ways-zero row)))
