-- Weights bound exponents, the degree bounds weights, and there is none past the margins.
use Rattle.std.proofs.Common.{All, List, [], arith, inl, inr, length, suc, sum, zero, ℕ, ◌*◌, ◌<◌, ◌∷◌, ◌≡◌, ◌≤◌, ◌⊎◌}
use Rattle.std.proofs.Math.Nat.{mul-le-mul}
use Rattle.std.proofs.lemmas.List.{get_or_past}
use Rattle.mb_matrix.proofs.FillLaws.{length-margins}
use Rattle.mb_matrix.proofs.MarginBounds.{margin_at_most}
use Rattle.mb_matrix.specs.Fiber.{AreColumns, margins}
use Rattle.mb_order.proofs.WeightLaws.{symbols-fit, symbols-small}
use Rattle.mb_order.specs.Weight.{symbols}
use Rattle.mb_tables.proofs.VectorLaws.{at-plus, at-times, some_place}
use Rattle.mb_tables.specs.Vectors.{at, times}

-- an exponent is at most some weight, since no column is 0
pub exponent-le : (d : ℕ) (columns : List (List ℕ)) (m : List ℕ) (k : ℕ) →
    AreColumns d columns → k < length columns → (i : ℕ) × (at m k ≤ at (margins d columns m) i)
unfolding margins
exponent-le d [] m k h l = absurd (omega arith)
exponent-le d (c ∷ columns) [] k h l = (0, omega arith)
exponent-le d (c ∷ columns) (x ∷ m) zero h l =
    let r = some_place c (h.0).not_zero in
    let i = r.0 in
    let y = r.2 in
    let p : x * 1 ≤ x * at c i = mul-le-mul (omega arith) y in
    let a = at-plus (times x c) (margins d columns m) i in
    let b = at-times x c i in
    (i, omega arith)
exponent-le d (c ∷ columns) (x ∷ m) (suc k) h l =
    let r = exponent-le d columns m k h.1 (omega arith) in
    let i = r.0 in
    let y = r.1 in
    let a = at-plus (times x c) (margins d columns m) i in
    (i, omega arith)

-- what no weight passes, no exponent passes
pub light-exponents : (d : ℕ) (columns : List (List ℕ)) (m : List ℕ) (most : ℕ) →
    AreColumns d columns → length m ≡ length columns →
    ((i : ℕ) → at (margins d columns m) i ≤ most) → (k : ℕ) → at m k ≤ most
light-exponents d columns m most h w light k =
    let cases : (k < length columns) ⊎ (length columns ≤ k) = grind arith in
    elim cases [
      | inl l ↦
          let r = exponent-le d columns m k h l in
          let i = r.0 in
          let a = light i in
          let b = r.1 in
          omega arith
      | inr l ↦ (let e = get_or_past m k 0 (omega arith) in omega arith)
    ]

-- where no entry passes a bound, no weight passes that times the degree
pub weight-degree : (most d : ℕ) (columns : List (List ℕ)) (m : List ℕ) (i : ℕ) → 1 ≤ most →
    All (λ column. All (λ entry. entry ≤ most) column) columns →
    at (margins d (symbols d columns) m) i ≤ most * sum m
weight-degree most d columns m i some h =
    margin_at_most most d (symbols d columns) m i (symbols-small most d columns some h)

-- there is no weight past the margins
pub weights-past : (d : ℕ) (columns : List (List ℕ)) (m : List ℕ) (i : ℕ) →
    AreColumns d columns → d ≤ i → at (margins d (symbols d columns) m) i ≡ 0
weights-past d columns m i h l =
    let e = length-margins d (symbols d columns) m (symbols-fit d columns h) in
    get_or_past (margins d (symbols d columns) m) i 0 (omega arith)
