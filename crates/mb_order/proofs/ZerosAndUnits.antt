-- Zeros, and units among them, as code fills them in.
use Rattle.std.proofs.Common.{ap, arith, refl, replicate, slice_set, suc, zero, ℕ, ◌∷◌, ◌<◌, ◌≡◌}
use Rattle.mb_tables.specs.Vectors.{unit, zeros}

-- so many numbers 0 are so many zeros
pub zeros-replicate : (n : ℕ) → replicate n 0 ≡ zeros n
unfolding zeros
zeros-replicate zero = refl
zeros-replicate (suc n) = ap (λ u. 0 ∷ u) (zeros-replicate n)

-- 1 put at a place of zeros is a unit
pub set-zeros : (n k : ℕ) → k < n → slice_set (zeros n) k 1 ≡ unit n k
unfolding zeros unit
set-zeros zero k h = absurd (omega arith)
set-zeros (suc n) zero h = refl
set-zeros (suc n) (suc k) h = ap (λ u. 0 ∷ u) (set-zeros n k (omega arith))
