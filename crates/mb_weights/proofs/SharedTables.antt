-- The shares of rings, and the sums over them.
use Rattle.std.proofs.Common.{All, Global, List, Vec, [], ap, arith, drop, length, refl, sym, take, ℕ, ◌*◌, ◌++◌, ◌+◌, ◌-◌, ◌<◌, ◌∙◌, ◌∷◌, ◌≡◌, ◌≤◌}
use Rattle.std.proofs.Math.Nat.{div-mul-le_self, le-div_iff_mul-le, mul-div_cancel_left}
use Rattle.std.proofs.Math.Seq.{take-add}
use Rattle.std.proofs.lemmas.List.{take_all}
use Rattle.std.proofs.lemmas.List.Elements.{All-drop, All-take}
use Rattle.std.proofs.lemmas.List.Sums.{sum_by-append, sum_by-take-le}
use Rattle.mb_matrix.specs.Measure.{Weighting}
use Rattle.mb_rings.proofs.RingShares.{starts-first}
use Rattle.mb_rings.specs.Share.{share_of, share_start}
use Rattle.mb_weights.proofs.SummedParts.{IsPiece, sums-append}
use Rattle.mb_weights.specs.PValue.{tables_in, whole_of}
use Rattle.mb_weights.specs.Weight.{weight_of}
use Rattle.mb_weights.specs.declared.sums.Sums.{Sums}
use Rattle.mb_weights.specs.loops.Parts.{both, shares_before, shares_in, sums_of}

-- a share begins no later than the next
starts-ascend : (s r k : ℕ) → 0 < k → share_start s r k ≤ share_start (s + 1) r k
starts-ascend s r k some =
    let e : share_start s r k * k ≤ s * r = div-mul-le_self (s * r) k in
    let f : s * r ≤ (s + 1) * r = omega arith in
    (le-div_iff_mul-le some).1 (omega (arith, e, f))

-- a share of a ring follows on those before it
share-follows : (ring : List (List ℕ)) (s k : ℕ) → 0 < k →
    take (share_start (s + 1) (length ring) k) ring
    ≡ take (share_start s (length ring) k) ring ++ share_of ring s k
share-follows ring s k some =
    let from = share_start s (length ring) k in
    let to = share_start (s + 1) (length ring) k in
    let up : from ≤ to = starts-ascend s (length ring) k some in
    let long : to ≡ from + (to - from) = omega (arith, up) in
    ap (λ n. take n ring) long ∙ take-add from (to - from) ring

-- what holds of all tables of a ring holds of those of a share
pub all-share : (P : List ℕ → Type 0) (ring : List (List ℕ)) (s k : ℕ) → All P ring →
    All P (share_of ring s k)
all-share P ring s k all =
    let from = share_start s (length ring) k in
    All-take P (share_start (s + 1) (length ring) k - from) (drop from ring)
    (All-drop P from ring all)

-- two pairs of sums, each of two parts, added up part by part
both-swap : (a b c d : Sums) → both (both a b) (both c d) ≡ both (both a c) (both b d)
both-swap a b c d =
    let e : a.below + b.below + (c.below + d.below) ≡ a.below + c.below + (b.below + d.below) =
    omega arith in
    let f : a.whole + b.whole + (c.whole + d.whole) ≡ a.whole + c.whole + (b.whole + d.whole) =
    omega arith in
    λ i. record { below = e i; whole = f i }

-- the sums over the shares of each ring follow on those over the shares before
shares-added : (m : Weighting) (w : ℕ) (rings : List (Vec (List ℕ) Global)) (s k : ℕ) → 0 < k →
    sums_of m w (shares_before rings (s + 1) k)
    ≡ both (sums_of m w (shares_before rings s k)) (sums_of m w (shares_in rings s k))
shares-added m w [] s k some = refl
shares-added m w (ring ∷ rings) s k some =
    let before = take (share_start s (length ring.items) k) ring.items in
    let share = share_of ring.items s k in
    sums-append m w (take (share_start (s + 1) (length ring.items) k) ring.items)
    (shares_before rings (s + 1) k)
    ∙ (λ i. both
    ((ap (sums_of m w) (share-follows ring.items s k some) ∙ sums-append m w before share) i)
    (shares-added m w rings s k some i))
    ∙ both-swap (sums_of m w before) (sums_of m w share)
    (sums_of m w (shares_before rings s k)) (sums_of m w (shares_in rings s k))
    ∙ (λ i. both (sym (sums-append m w before (shares_before rings s k)) i)
    (sym (sums-append m w share (shares_in rings s k)) i))

-- the shares before one are a part of all tables
shares-within : (m : Weighting) (rings : List (Vec (List ℕ) Global)) (s k : ℕ) →
    whole_of m (shares_before rings s k) ≤ whole_of m (tables_in rings)
shares-within m [] s k = omega arith
shares-within m (ring ∷ rings) s k =
    let start = share_start s (length ring.items) k in
    let e = sum_by-append (weight_of m) (take start ring.items) (shares_before rings s k) in
    let f = sum_by-append (weight_of m) ring.items (tables_in rings) in
    let g = sum_by-take-le (weight_of m) ring.items start in
    let h = shares-within m rings s k in
    omega (arith, e, f, g, h)

-- one share more of each ring
pub piece-share : (m : Weighting) (w : ℕ) (rings : List (Vec (List ℕ) Global)) (s k : ℕ) → 0 < k →
    IsPiece m w (shares_before rings s k) (shares_in rings s k) (shares_before rings (s + 1) k)
    (tables_in rings)
piece-share m w rings s k some = record {
  added = shares-added m w rings s k some;
  within = shares-within m rings (s + 1) k;
}

-- no tables stand before the first shares
pub shares-first : (rings : List (Vec (List ℕ) Global)) (k : ℕ) → 0 < k →
    shares_before rings 0 k ≡ []
shares-first [] k some = refl
shares-first (ring ∷ rings) k some =
    let e = starts-first (length ring.items) k some in
    ap (λ n. take n ring.items ++ shares_before rings 0 k) e ∙ shares-first rings k some

-- and all before the end of the last
pub shares-all : (rings : List (Vec (List ℕ) Global)) (k : ℕ) → 0 < k →
    shares_before rings k k ≡ tables_in rings
shares-all [] k some = refl
shares-all (ring ∷ rings) k some =
    let r = length ring.items in
    let e : share_start k r k ≡ r = mul-div_cancel_left r some in
    let f = ap (λ n. take n ring.items) e ∙ take_all r ring.items (omega arith) in
    λ i. f i ++ shares-all rings k some i
