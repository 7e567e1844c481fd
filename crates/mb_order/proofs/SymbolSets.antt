-- What the sets of the symbols that occur tell of two monomials.
use Rattle.std.proofs.Common.{Bool, List, [], ap, arith, bit_and, bit_or, false, inl, inr, length, min, not, suc, sym, true, zero, ℕ, ◌%◌, ◌*◌, ◌+◌, ◌-◌, ◌<◌, ◌==◌, ◌^◌, ◌∙◌, ◌∷◌, ◌≡◌, ◌≤◌, ◌⊎◌}
use Rattle.std.proofs.lemmas.List.{get_or_past}
use Rattle.std.proofs.lemmas.Nat.Bits.{bit_at-zero, bit_at_and, bit_at_not, bit_at_ones, bit_at_ones_above, bit_at_set_other, bit_at_set_same, same_from_bits}
use Rattle.std.proofs.lemmas.Nat.{one_shl}
use Rattle.std.specs.Int.{bit_at, bit_not, w128}
use Rattle.mb_order.proofs.MarginFreeLaws.{free-at, free-yes}
use Rattle.mb_order.specs.MarginFree.{margin_free}
use Rattle.mb_order.specs.Symbols.{IsSetOf}
use Rattle.mb_tables.proofs.VectorLaws.{shares-no, within-at}
use Rattle.mb_tables.specs.Vectors.{at, shares, within}
use Rattle.std.proofs.lemmas.Bool.{false_from_ne_true, true_from_ne_false}

-- monomials that share a symbol do so at some place
pub shares-place : (u v : List ℕ) → shares u v ≡ true → (k : ℕ) × (0 < at u k) × (0 < at v k)
unfolding shares
shares-place [] v e = cc
shares-place (x ∷ u) [] e = cc
shares-place (zero ∷ u) (y ∷ v) e = let r = shares-place u v e in (suc r.0, r.1, r.2)
shares-place (suc x ∷ u) (zero ∷ v) e = let r = shares-place u v e in (suc r.0, r.1, r.2)
shares-place (suc x ∷ u) (suc y ∷ v) e = (0, omega arith, omega arith)

module _ (s t : ℕ) (u v : List ℕ) (left : IsSetOf s u) (right : IsSetOf t v) where
  -- sets with nothing in common: no symbol is shared
  pub apart : bit_and s t ≡ 0 → shares u v ≡ false
  apart e = false_from_ne_true (shares u v) (λ f.
      let r = shares-place u v f in
      let a = left r.0 in
      let b = right r.0 in
      let c = bit_at_and s t r.0 in
      let d : bit_at (bit_and s t) r.0 ≡ 0 = ap (λ n. bit_at n r.0) e ∙ bit_at-zero r.0 in
      let x = r.1 in
      let y = r.2 in
      omega arith)

  -- sets with something in common: a symbol is shared
  pub overlap : (bit_and s t ≡ 0 → ⊥) → shares u v ≡ true
  overlap h = true_from_ne_false (shares u v) (λ e. h (same_from_bits (bit_and s t) 0 (λ i.
      let a = left i in
      let b = right i in
      let c = bit_at_and s t i in
      let d = bit_at-zero i in
      elim (shares-no u v e i) [ inl f ↦ omega arith | inr f ↦ omega arith ])))

  -- a divisor's symbols all occur
  pub no_divisor : length u ≤ 128 → t < 2 ^ 128 → (bit_and s (bit_not w128 t) ≡ 0 → ⊥) →
      within u v ≡ false
  no_divisor few small h =
      false_from_ne_true (within u v) (λ e. h (same_from_bits (bit_and s (bit_not w128 t)) 0 (λ i.
      let a = left i in
      let b = right i in
      let c = bit_at_and s (bit_not w128 t) i in
      let d = bit_at-zero i in
      let f = within-at u v e i in
      let cases : (i < 128) ⊎ (128 ≤ i) = grind arith in
      elim cases [
        | inl l ↦ (let g = bit_at_not w128 t i small l in omega arith)
        | inr l ↦ (let g = get_or_past u i 0 (omega arith) in omega arith)
      ])))

module _ (s d : ℕ) (u : List ℕ) (set : IsSetOf s u) where
  -- no bit of a margin is set: the monomial is margin-free
  pub free-by_set : bit_and s (2 ^ d - 1) ≡ 0 → margin_free d u ≡ true
  free-by_set e = free-yes d u (λ k l.
      let a = set k in
      let b = bit_at_and s (2 ^ d - 1) k in
      let c = bit_at_ones d k l in
      let f : bit_at (bit_and s (2 ^ d - 1)) k ≡ 0 = ap (λ n. bit_at n k) e ∙ bit_at-zero k in
      omega arith)

  -- some bit of a margin is set: it is not margin-free
  pub not_free-by_set : (bit_and s (2 ^ d - 1) ≡ 0 → ⊥) → margin_free d u ≡ false
  not_free-by_set h =
      false_from_ne_true (margin_free d u) (λ e. h (same_from_bits (bit_and s (2 ^ d - 1)) 0 (λ k.
      let a = set k in
      let b = bit_at_and s (2 ^ d - 1) k in
      let z = bit_at-zero k in
      let cases : (k < d) ⊎ (d ≤ k) = grind arith in
      elim cases [
        | inl l ↦ (let c = free-at d u e k l in omega arith)
        | inr l ↦ (let c = bit_at_ones_above d k l in omega arith)
      ])))

-- a test that holds exactly where a number isn't 0
none_or_some : (x : ℕ) (t : Bool) → (x ≡ 0 → t ≡ false) → ((x ≡ 0 → ⊥) → t ≡ true) →
    not (x == 0) ≡ t
none_or_some x t h g =
    let cases : (x ≡ 0) ⊎ (0 < x) = grind arith in
    elim cases [
      | inl e ↦ (let f = h e in grind arith)
      | inr l ↦ (let f = g (λ e. absurd (omega arith)) in grind arith)
    ]

-- a test that holds exactly where a number is 0
none_is : (x : ℕ) (t : Bool) → (x ≡ 0 → t ≡ true) → ((x ≡ 0 → ⊥) → t ≡ false) → (x == 0) ≡ t
none_is x t h g =
    let cases : (x ≡ 0) ⊎ (0 < x) = grind arith in
    elim cases [
      | inl e ↦ (let f = h e in grind arith)
      | inr l ↦ (let f = g (λ e. absurd (omega arith)) in grind arith)
    ]

-- the test of the code: some symbol is shared
pub shares-by_set : (s t : ℕ) (u v : List ℕ) → IsSetOf s u → IsSetOf t v →
    not (bit_and s t == 0) ≡ shares u v
shares-by_set s t u v left right =
    none_or_some (bit_and s t) (shares u v) (apart s t u v left right) (overlap s t u v left right)

-- the test of the code: the monomial is margin-free
pub margin_free-by_set : (s d : ℕ) (u : List ℕ) → IsSetOf s u → d < 128 →
    (bit_and s ((1 * 2 ^ d) % 2 ^ 128 - 1) == 0) ≡ margin_free d u
margin_free-by_set s d u set h =
    ap (λ n. bit_and s (n - 1) == 0) (one_shl d 128 h)
    ∙ none_is (bit_and s (2 ^ d - 1)) (margin_free d u) (free-by_set s d u set)
    (not_free-by_set s d u set)

-- a place is put into a set
pub set-place : (s x : ℕ) (u : List ℕ) (k : ℕ) → k < 128 → 0 < at u k →
    ((i : ℕ) → i < k → bit_at s i ≡ min (at u i) 1) → ((i : ℕ) → k ≤ i → bit_at s i ≡ 0) →
    x ≡ bit_or s ((1 * 2 ^ k) % 2 ^ 128) → ((i : ℕ) → i < k + 1 → bit_at x i ≡ min (at u i) 1)
    × ((i : ℕ) → k + 1 ≤ i → bit_at x i ≡ 0)
set-place s x u k h some done none e = (
  (λ i l.
      let cases : (i < k) ⊎ (i ≡ k) = grind arith in
      elim cases [
        | inl g ↦ ap (λ n. bit_at n i) e ∙ bit_at_set_other w128 s k h i (omega arith) ∙ done i g
        | inr g ↦ ap (bit_at x) g ∙ ap (λ n. bit_at n k) e ∙ bit_at_set_same w128 s k h
            ∙ (let f : 1 ≡ min (at u k) 1 = omega arith in f) ∙ ap (λ n. min (at u n) 1) (sym g)
      ]),
  (λ i l. ap (λ n. bit_at n i) e ∙ bit_at_set_other w128 s k h i (omega arith)
      ∙ none i (omega arith)),
)

-- a place with exponent 0 is left out
pub set-none : (s x : ℕ) (u : List ℕ) (k : ℕ) → at u k ≤ 0 →
    ((i : ℕ) → i < k → bit_at s i ≡ min (at u i) 1) → ((i : ℕ) → k ≤ i → bit_at s i ≡ 0) →
    x ≡ s → ((i : ℕ) → i < k + 1 → bit_at x i ≡ min (at u i) 1)
    × ((i : ℕ) → k + 1 ≤ i → bit_at x i ≡ 0)
set-none s x u k h done none e = (
  (λ i l.
      let cases : (i < k) ⊎ (i ≡ k) = grind arith in
      elim cases [
        | inl g ↦ ap (λ n. bit_at n i) e ∙ done i g
        | inr g ↦ ap (λ n. bit_at n i) e ∙ none i (omega arith)
            ∙ (let f : 0 ≡ min (at u k) 1 = omega arith in f) ∙ ap (λ n. min (at u n) 1) (sym g)
      ]),
  (λ i l. ap (λ n. bit_at n i) e ∙ none i (omega arith)),
)

-- a monomial has one set of symbols
pub same_set : (s t : ℕ) (u v : List ℕ) → IsSetOf s u → IsSetOf t v → u ≡ v → s ≡ t
same_set s t u v left right e =
    same_from_bits s t (λ i.
    let a = left i in
    let b = right i in
    let c = ap (λ x. at x i) e in
    omega arith)
