-- The lowest symbol of a set, and the set without it.
use Rattle.std.proofs.Common.{ap, arith, bit_and, inl, inr, ◌≡◌, ◌<◌, ◌≤◌, ◌^◌, ◌⊎◌, ◌*◌, ◌%◌, ◌∙◌, sym, ℕ}
use Rattle.std.proofs.lemmas.Nat.Bits.{bit_at-trailing_zeros, bit_at_and, bit_at_clear_other, bit_at_clear_same}
use Rattle.std.proofs.lemmas.Nat.{and_le_l}
use Rattle.std.specs.Int.{bit_at, bit_not, trailing_zeros, w128}

-- the set without one of its symbols, as the code takes it out
abbrev pub without : ℕ → ℕ → ℕ
without set k = bit_and set (bit_not w128 ((1 * 2 ^ k) % 2 ^ 128))

-- the lowest symbol of a set that has some
pub lowest-there : (set : ℕ) → 0 < set → set < 2 ^ 128 →
    (trailing_zeros w128 set < 128) × (bit_at set (trailing_zeros w128 set) ≡ 1)
lowest-there set h l = let r = bit_at-trailing_zeros w128 set h l in (r.0, r.1)

-- what is taken out is no longer there
pub without-same : (set k : ℕ) → k < 128 → bit_at (without set k) k ≡ 0
without-same set k h = bit_at_clear_same w128 set k h

-- each other symbol stays as it was, where the set has none past the 128th
pub without-other : (set k i : ℕ) → k < 128 → (i ≡ k → ⊥) → (128 ≤ i → bit_at set i ≡ 0) →
    bit_at (without set k) i ≡ bit_at set i
without-other set k i h differs none =
    let cases : (i < 128) ⊎ (128 ≤ i) = grind arith in
    elim cases [
      | inl l ↦ bit_at_clear_other w128 set k h i l differs
      | inr l ↦
          let a = none l in
          let b = bit_at_and set (bit_not w128 ((1 * 2 ^ k) % 2 ^ 128)) i in
          omega arith
    ]

-- a set is the greater with a symbol that is taken out
pub without-less : (set k : ℕ) → k < 128 → bit_at set k ≡ 1 → without set k < set
without-less set k h there =
    let most = and_le_l set (bit_not w128 ((1 * 2 ^ k) % 2 ^ 128)) in
    let cases : (without set k ≡ set) ⊎ (without set k < set) = grind arith in
    elim cases [
      | inl e ↦
          let a : bit_at set k ≡ 0 = sym (ap (λ n. bit_at n k) e) ∙ without-same set k h in
          absurd (omega arith)
      | inr l ↦ l
    ]
