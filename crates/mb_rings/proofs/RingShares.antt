-- The shares of a ring cover it.
use Rattle.std.proofs.Common.{List, Some, [], ap, arith, drop, length, slice_get, subst, suc, sym, take, zero, ℕ, ◌*◌, ◌+◌, ◌-◌, ◌/◌, ◌<◌, ◌∙◌, ◌∷◌, ◌≡◌, ◌≤◌, ◌⊎◌, ⊎_elim}
use Rattle.std.proofs.Math.Nat.{mul-div_cancel_left}
use Rattle.std.proofs.lemmas.List.{take-append-drop}
use Rattle.mb_rings.specs.Ring.{Ring}
use Rattle.mb_rings.specs.Share.{share_of, share_start}
use Rattle.mb_tables.proofs.ListLaws.{In-left, In-place, In-right, place-in, place-within}
use Rattle.mb_tables.specs.Lists.{In}

-- what stands among the first elements stands in the list
pub In-taken : {X : Type 0} (n : ℕ) (x : X) (xs : List X) → In x (take n xs) → In x xs
In-taken n x xs i =
    subst (λ list. In x list) (take-append-drop n xs) (In-left x (take n xs) (drop n xs) i)

-- and what stands among the others
pub In-dropped : {X : Type 0} (n : ℕ) (x : X) (xs : List X) → In x (drop n xs) → In x xs
In-dropped n x xs i =
    subst (λ list. In x list) (take-append-drop n xs) (In-right x (take n xs) (drop n xs) i)

-- a table of a share is one of the ring's
pub In-share : (ring : Ring) (w k : ℕ) (u : List ℕ) → In u (share_of ring w k) → In u ring
In-share ring w k u i =
    let from = share_start w (length ring) k in
    In-dropped from u ring
    (In-taken (share_start (w + 1) (length ring) k - from) u (drop from ring) i)

-- an element past some is one of those left
get-dropped : {X : Type 0} (n j : ℕ) (x : X) (xs : List X) → slice_get xs (n + j) ≡ Some x →
    slice_get (drop n xs) j ≡ Some x
get-dropped zero j x xs e =
    let same : 0 + j ≡ j = omega arith in subst (λ n. slice_get xs n ≡ Some x) same e
get-dropped (suc n) j x [] e = cc
get-dropped (suc n) j x (y ∷ xs) e =
    let same : suc n + j ≡ suc (n + j) = omega arith in
    get-dropped n j x xs (subst (λ k. slice_get (y ∷ xs) k ≡ Some x) same e)

-- an element before a place is one of the first
get-taken : {X : Type 0} (n j : ℕ) (x : X) (xs : List X) → j < n → slice_get xs j ≡ Some x →
    slice_get (take n xs) j ≡ Some x
get-taken zero j x xs l e = absurd (omega arith)
get-taken (suc n) j x [] l e = cc
get-taken (suc n) zero x (y ∷ xs) l e = e
get-taken (suc n) (suc j) x (y ∷ xs) l e = get-taken n j x xs (omega arith) e

-- one of two numbers is below the other, or not
pub lower : (k j : ℕ) → (k < j) ⊎ (j ≤ k)
lower k j = grind arith

-- below a bound that grows from 0, a number lies between two neighbouring ones
between : (b : ℕ → ℕ) → b 0 ≡ 0 → (p n : ℕ) → p < b n →
    (w : ℕ) × (w < n) × (b w ≤ p) × (p < b (w + 1))
between b e p zero l = absurd (omega arith)
between b e p (suc n) l =
    ⊎_elim
    (λ m. let r = between b e p n m in (r.0, omega (arith, r.1), r.2, r.3))
    (λ m. let s : suc n ≡ n + 1 = omega arith in (n, omega arith, m, subst (λ t. p < b t) s l))
    (lower p (b n))

-- the first share begins at the first place
pub starts-first : (r k : ℕ) → 0 < k → share_start 0 r k ≡ 0
starts-first r k some =
    let none : 0 * r ≡ k * 0 = omega arith in
    ap (λ n. n / k) none ∙ mul-div_cancel_left 0 some

-- each table of the ring stands in some share
pub In-some_share : (ring : Ring) (k : ℕ) → 0 < k → (u : List ℕ) → In u ring →
    (w : ℕ) × (w < k) × In u (share_of ring w k)
In-some_share ring k some u i =
    let r = length ring in
    let p = In-place ring u i in
    let within : p.0 < length ring = place-within ring p.0 u p.1 in
    let all : share_start k r k ≡ r = mul-div_cancel_left r some in
    let low : p.0 < share_start k r k = subst (λ n. p.0 < n) (sym all) within in
    let s = between (λ w. share_start w r k) (starts-first r k some) p.0 k low in
    let from : ℕ = share_start s.0 r k in
    let to : ℕ = share_start (s.0 + 1) r k in
    let least : from ≤ p.0 = s.2 in
    let most : p.0 < to = s.3 in
    let back : from + (p.0 - from) ≡ p.0 = omega arith in
    let there : slice_get (drop from ring) (p.0 - from) ≡ Some u =
    get-dropped from (p.0 - from) u ring
    (subst (λ n. slice_get ring n ≡ Some u) (sym back) p.1) in (
      s.0,
      s.1,
      place-in (share_of ring s.0 k) (p.0 - from) u
          (get-taken (to - from) (p.0 - from) u (drop from ring) (omega arith) there),
    )
