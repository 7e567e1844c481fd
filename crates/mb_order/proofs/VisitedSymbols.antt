-- Loops over the symbols of a set, from the lowest on: what is left over, and what is done.
use Rattle.std.proofs.Common.{List, ap, arith, inl, inr, length, max, subst, sym, ℕ, ◌*◌, ◌<◌, ◌^◌, ◌%◌, ◌∙◌, ◌≡◌, ◌≤◌, ◌⊎◌}
use Rattle.std.proofs.lemmas.List.{get_or_past}
use Rattle.std.proofs.lemmas.Nat.Bits.{bit_at_above, bit_at_set_other, bit_at_set_same}
use Rattle.std.specs.Int.Bits.{bit_or}
use Rattle.std.specs.Int.{bit_at, trailing_zeros, w128}
use Rattle.mb_order.proofs.LowestSymbol.{lowest-there, without, without-other, without-same}
use Rattle.mb_order.specs.Symbols.{IsSetOf}
use Rattle.mb_tables.proofs.VectorLaws.{at-greater, length-greater}
use Rattle.mb_tables.specs.Vectors.{at, greater}

-- a symbol of the set is a place of the monomial
pub place_of_symbol : (set : ℕ) (m : List ℕ) (k : ℕ) → IsSetOf set m → bit_at set k ≡ 1 →
    k < length m
place_of_symbol set m k has there =
    let cases : (k < length m) ⊎ (length m ≤ k) = grind arith in
    elim cases [
      | inl l ↦ l
      | inr l ↦ (let a = get_or_past m k 0 l in let b = has k in absurd (omega arith))
    ]

-- the lowest symbol that is left over: it is there, and a place of the monomial
pub lowest_place : (set rest : ℕ) (m : List ℕ) → IsSetOf set m →
    ((i : ℕ) → bit_at rest i ≤ bit_at set i) → (rest ≡ 0 → ⊥) → rest < 2 ^ 128 →
    (trailing_zeros w128 rest < 128) × (bit_at rest (trailing_zeros w128 rest) ≡ 1)
    × (trailing_zeros w128 rest < length m)
lowest_place set rest m has part some small =
    let cases : (rest ≡ 0) ⊎ (0 < rest) = grind arith in
    elim cases [
      | inl e ↦ absurd (some e)
      | inr l ↦
          let k = trailing_zeros w128 rest in
          let r = lowest-there rest l small in
          let a = r.1 in
          let b = part k in
          let c = has k in
          let there : bit_at set k ≡ 1 = omega arith in
          (r.0, r.1, place_of_symbol set m k has there)
    ]

module _ (rest k : ℕ) (low : k < 128) (small : rest < 2 ^ 128) where
  -- the symbols that are then left over are those but this one
  pub other_left : (i : ℕ) → (i ≡ k → ⊥) → bit_at (without rest k) i ≡ bit_at rest i
  other_left i differs = without-other rest k i low differs (bit_at_above rest 128 i small)

  -- they are part of what was there
  pub part_left : (i : ℕ) → bit_at (without rest k) i ≤ bit_at rest i
  part_left i =
      let cases : (i ≡ k) ⊎ (i ≡ k → ⊥) = grind arith in
      elim cases [
        | inl e ↦
            let a = ap (bit_at (without rest k)) e in
            let b = without-same rest k low in
            omega arith
        | inr n ↦ (let a = other_left i n in omega arith)
      ]

  -- what holds at each symbol that is done, and at this one, holds at each that is then done
  pub done_at : (P : ℕ → Type 0) → ((i : ℕ) → bit_at rest i ≡ 0 → (i ≡ k → ⊥) → P i) → P k →
      (i : ℕ) → bit_at (without rest k) i ≡ 0 → P i
  done_at P done here i out =
      let cases : (i ≡ k) ⊎ (i ≡ k → ⊥) = grind arith in
      elim cases [
        | inl e ↦ subst P (sym e) here
        | inr n ↦ done i (sym (other_left i n) ∙ out) n
      ]

  -- what is left over is another symbol
  pub left_differs : (i : ℕ) → bit_at (without rest k) i ≡ 1 → (i ≡ k → ⊥)
  left_differs i there e =
      let a = ap (bit_at (without rest k)) e in
      let b = without-same rest k low in
      absurd (omega arith)

-- the set with a symbol put in is that of exponents that differ there alone, and are above 0 there
pub set_with : (set k : ℕ) (old new : List ℕ) → k < 128 → IsSetOf set old →
    ((i : ℕ) → (i ≡ k → ⊥) → at new i ≡ at old i) → 0 < at new k →
    IsSetOf (bit_or set ((1 * 2 ^ k) % 2 ^ 128)) new
set_with set k old new low has same some i =
    let cases : (i ≡ k) ⊎ (i ≡ k → ⊥) = grind arith in
    elim cases [
      | inl e ↦
          let a = ap (bit_at (bit_or set ((1 * 2 ^ k) % 2 ^ 128))) e in
          let b = bit_at_set_same w128 set k low in
          let c = ap (at new) e in
          omega arith
      | inr n ↦
          let a = bit_at_set_other w128 set k low i n in
          let b = same i n in
          let c = has i in
          omega arith
    ]

-- and without it, where the exponent there is 0
pub set_without : (set k : ℕ) (old new : List ℕ) → k < 128 → set < 2 ^ 128 → IsSetOf set old →
    ((i : ℕ) → (i ≡ k → ⊥) → at new i ≡ at old i) → at new k ≡ 0 →
    IsSetOf (without set k) new
set_without set k old new low small has same none i =
    let cases : (i ≡ k) ⊎ (i ≡ k → ⊥) = grind arith in
    elim cases [
      | inl e ↦
          let a = ap (bit_at (without set k)) e in
          let b = without-same set k low in
          let c = ap (at new) e in
          omega arith
      | inr n ↦
          let a = other_left set k low small i n in
          let b = same i n in
          let c = has i in
          omega arith
    ]

-- where neither of two monomials has a symbol, the greater exponents have it neither
pub neither : (set : ℕ) (left right : List ℕ) (i : ℕ) → IsSetOf set (greater left right) →
    bit_at set i ≡ 0 → (at left i ≡ 0) × (at right i ≡ 0)
neither set left right i has out =
    let a = has i in
    let b = at-greater left right i in
    (omega arith, omega arith)

-- the lowest symbol that is left over of two monomials
pub left_place : (set rest : ℕ) (left right : List ℕ) → IsSetOf set (greater left right) →
    ((i : ℕ) → bit_at rest i ≤ bit_at set i) → (rest ≡ 0 → ⊥) → rest < 2 ^ 128 →
    (trailing_zeros w128 rest < 128) × (bit_at rest (trailing_zeros w128 rest) ≡ 1)
    × (trailing_zeros w128 rest < max (length left) (length right))
left_place set rest left right has part some small =
    let p = lowest_place set rest (greater left right) has part some small in
    let a = p.2 in
    (p.0, p.1, omega (arith, length-greater left right))

-- it is a place of each list that is as long as the two
pub left_within : (set rest : ℕ) (left right : List ℕ) → IsSetOf set (greater left right) →
    ((i : ℕ) → bit_at rest i ≤ bit_at set i) → (rest ≡ 0 → ⊥) → rest < 2 ^ 128 →
    (list : List ℕ) → length left ≡ length list → length right ≡ length list →
    trailing_zeros w128 rest < length list
left_within set rest left right has part some small list e f =
    let p = left_place set rest left right has part some small in
    let a = p.2 in
    omega arith
