-- The sizes of rings.
use Rattle.std.proofs.Common.{Global, List, Some, Vec, [], ap, arith, length, map, slice_get, suc, sum_by, take, zero, ℕ, ◌++◌, ◌∷◌, ◌<◌, ◌^◌, ◌≡◌, ◌≤◌}
use Rattle.std.proofs.lemmas.List.{get_or-map, length-map}
use Rattle.std.proofs.lemmas.List.Sums.{get_or-le-sum_by, sum_by-cons}
use Rattle.mb_rings.specs.Ring.{Ring}
use Rattle.mb_rings.specs.loops.RingList.{listed}
use Rattle.mb_weights.specs.PValue.{AreSmall}

-- the size of one ring more
pub sizes-more : (rings : List Ring) (k : ℕ) (ring : Ring) → slice_get rings k ≡ Some ring →
    map (length {A = List ℕ}) (take (suc k) rings)
    ≡ map (length {A = List ℕ}) (take k rings) ++ length ring ∷ []
sizes-more [] k ring e = absurd (cc)
sizes-more (first ∷ rings) zero ring e =
    let same : first ≡ ring = cc in ap (λ r. length r ∷ []) same
sizes-more (first ∷ rings) (suc k) ring e =
    ap (λ sizes. length first ∷ sizes) (sizes-more rings k ring e)

-- no ring has more tables than all of them
pub size-within : (rings : List Ring) (k : ℕ) (ring : Ring) → slice_get rings k ≡ Some ring →
    length ring ≤ sum_by (length {A = List ℕ}) rings
size-within [] k ring e = absurd (cc)
size-within (first ∷ rings) zero ring e =
    let all = sum_by-cons (length {A = List ℕ}) first rings in
    let same = ap (λ r. length r) (let own : first ≡ ring = cc in own) in
    omega (arith, all, same)
size-within (first ∷ rings) (suc k) ring e =
    let all = sum_by-cons (length {A = List ℕ}) first rings in
    let rest = size-within rings k ring e in
    omega (arith, all, rest)

-- where all together are fewer than 2^32, the vectors that keep the rings are
pub kept-small : (kept : List (Vec (List ℕ) Global)) (rings : List Ring) → listed kept ≡ rings →
    sum_by (length {A = List ℕ}) rings < 2 ^ 32 → AreSmall kept
kept-small kept rings k few i d l =
    let at = get_or-map (λ (ring : Vec (List ℕ) Global). ring.items) kept i d d.items l in
    let long = length-map kept (λ (ring : Vec (List ℕ) Global). ring.items) in
    let within = get_or-le-sum_by (length {A = List ℕ}) (listed kept) i d.items
    (omega (arith, long, l)) in
    let size = ap (λ ring. length ring) at in
    let all = ap (sum_by (length {A = List ℕ})) k in
    omega (arith, within, size, all, few)
