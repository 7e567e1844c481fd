-- The first element that passes a test, found in order.
use Rattle.std.proofs.Common.{Bool, List, None, Some, [], ap, arith, cond, false, get_or, length, refl, suc, true, zero, ℕ, ◌+◌, ◌<◌, ◌∙◌, ◌∷◌, ◌≡◌}
use Rattle.std.proofs.lemmas.List.FromFn.{get_or-range_with_len, length-range_with_len}
use Rattle.std.specs.List.{find, position, range_with_len}
use Rattle.mb_matrix.proofs.FirstFaults.{position-None_from, position-Some_from}

-- the first element that passes
pub find-Some_from : {X : Type 0} (p : X → Bool) (xs : List X) (i : ℕ) (d : X) → i < length xs →
    ((k : ℕ) → k < i → p (get_or xs k d) ≡ false) → p (get_or xs i d) ≡ true →
    find p xs ≡ Some (get_or xs i d)
find-Some_from p [] i d within before found = absurd (omega arith)
find-Some_from p (x ∷ xs) zero d within before found =
    ap (λ t. cond t (Some x) (find p xs)) found
find-Some_from p (x ∷ xs) (suc i) d within before found =
    ap (λ t. cond t (Some x) (find p xs)) (before 0 (omega arith))
    ∙ find-Some_from p xs i d (omega arith) (λ k l. before (suc k) (omega arith)) found

-- no element passes
pub find-None_from : {X : Type 0} (p : X → Bool) (xs : List X) (d : X) →
    ((k : ℕ) → k < length xs → p (get_or xs k d) ≡ false) → find p xs ≡ None
find-None_from p [] d none = refl
find-None_from p (x ∷ xs) d none =
    ap (λ t. cond t (Some x) (find p xs)) (none 0 (omega arith))
    ∙ find-None_from p xs d (λ k l. none (suc k) (omega arith))

-- the first number, from 0, that passes
pub position_range-Some : (p : ℕ → Bool) (n i : ℕ) → i < n →
    ((k : ℕ) → k < i → p k ≡ false) → p i ≡ true → position p (range_with_len 0 n) ≡ Some i
position_range-Some p n i within before found =
    position-Some_from p (range_with_len 0 n) i 0
    (let e = length-range_with_len 0 n in omega arith)
    (λ k l. ap p (get_or-range_with_len 0 n k 0 (omega arith) ∙ zero_more k) ∙ before k l)
    (ap p (get_or-range_with_len 0 n i 0 within ∙ zero_more i) ∙ found)
  where
    zero_more : (k : ℕ) → 0 + k ≡ k
    zero_more k = omega arith

-- no number passes
pub position_range-None : (p : ℕ → Bool) (n : ℕ) → ((k : ℕ) → k < n → p k ≡ false) →
    position p (range_with_len 0 n) ≡ None
position_range-None p n none =
    position-None_from p (range_with_len 0 n) 0
    (λ k l.
    let m : k < n = let e = length-range_with_len 0 n in omega arith in
    let same : 0 + k ≡ k = omega arith in
    ap p (get_or-range_with_len 0 n k 0 m ∙ same) ∙ none k m)
