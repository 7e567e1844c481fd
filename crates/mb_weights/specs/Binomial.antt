-- Binomial coefficients.
use Rattle.std.specs.Prelude.{suc, zero, ℕ, ◌+◌}

-- n + k choose k: in how many ways k things are chosen and n left, by Pascal's rule
unfoldable pub ways : ℕ → ℕ → ℕ
ways zero k = 1
ways (suc n) zero = 1
ways (suc n) (suc k) = ways n (suc k) + ways (suc n) k
