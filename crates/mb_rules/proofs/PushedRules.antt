-- Lists with one element more at the end.
use Rattle.std.proofs.Common.{List, Some, [], arith, length, refl, slice_get, suc, zero, ℕ, ◌++◌, ◌<◌, ◌∷◌, ◌≡◌, ◌⊎◌, inl, inr}
use Rattle.mb_tables.specs.Vectors.{at}

-- an element of the longer list is one of the shorter, or the last
pub push-cases : {X : Type 0} (xs : List X) (x : X) (k : ℕ) (r : X) →
    slice_get (xs ++ (x ∷ [])) k ≡ Some r → (slice_get xs k ≡ Some r) ⊎ (x ≡ r)
push-cases [] x zero r e = inr cc
push-cases [] x (suc k) r e = cc
push-cases (y ∷ xs) x zero r e = inl e
push-cases (y ∷ xs) x (suc k) r e = push-cases xs x k r e

-- the element at the end is the one put there
pub last_is : {X : Type 0} (xs : List X) (x : X) (k : ℕ) (r : X) → k ≡ length xs →
    slice_get (xs ++ (x ∷ [])) k ≡ Some r → x ≡ r
last_is [] x zero r h e = cc
last_is [] x (suc k) r h e = absurd (omega arith)
last_is (y ∷ xs) x zero r h e = absurd (omega arith)
last_is (y ∷ xs) x (suc k) r h e = last_is xs x k r (omega arith) e

-- the numbers of the front stay
pub at-front : (u v : List ℕ) (k : ℕ) → k < length u → at (u ++ v) k ≡ at u k
at-front [] v k h = absurd (omega arith)
at-front (x ∷ u) v zero h = refl
at-front (x ∷ u) v (suc k) h = at-front u v k (omega arith)

-- the number at the end is the one put there
pub at-last : (u : List ℕ) (x k : ℕ) → k ≡ length u → at (u ++ (x ∷ [])) k ≡ x
at-last [] x zero h = refl
at-last [] x (suc k) h = absurd (omega arith)
at-last (y ∷ u) x zero h = absurd (omega arith)
at-last (y ∷ u) x (suc k) h = at-last u x k (omega arith)
