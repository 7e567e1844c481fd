-- How large products and their sums are.
use Rattle.std.proofs.Common.{arith, neg_ℤ, negsuc, pos, ℕ, ℤ, ◌*ℤ◌, ◌*◌, ◌+◌, ◌<◌, ◌^◌, ◌≤ℤ◌, ◌≤◌}
use Rattle.std.proofs.lemmas.Int.{ints, unsigned_abs-mul}
use Rattle.std.proofs.Math.Nat.{mul-le-mul, mul-le-mul_right}
use Rattle.std.specs.Int.RustNames.{unsigned_abs}
use mir.Syntax.{w32}
use mir.Val.{SFits}

-- a number is at least the negative of its size
pub above_low : (z : ℤ) (n : ℕ) → unsigned_abs z ≤ n → neg_ℤ (pos n) ≤ℤ z
above_low (pos k) n h = omega (arith, ints)
above_low (negsuc k) n h = omega (arith, ints)

-- and at most its size
pub below_high : (z : ℤ) (n : ℕ) → unsigned_abs z ≤ n → z ≤ℤ pos n
below_high (pos k) n h = omega (arith, ints)
below_high (negsuc k) n h = omega (arith, ints)

-- a number of 32 bits
pub abs_fits : (z : ℤ) → SFits w32 z → unsigned_abs z ≤ 2 ^ 31
abs_fits (pos k) h = omega (arith, ints)
abs_fits (negsuc k) h = omega (arith, ints)

-- a product of bounded numbers
pub abs_product : (a b : ℤ) (m n : ℕ) → unsigned_abs a ≤ m → unsigned_abs b ≤ n →
    unsigned_abs (a *ℤ b) ≤ m * n
abs_product a b m n h k = rw (unsigned_abs-mul a b) (mul-le-mul h k)

-- a product of two numbers of 32 bits
pub abs_entry_product : (a b : ℤ) → SFits w32 a → SFits w32 b → unsigned_abs (a *ℤ b) ≤ 2 ^ 62
abs_entry_product a b f g = abs_product a b (2 ^ 31) (2 ^ 31) (abs_fits a f) (abs_fits b g)

-- a row of a grid ends within its entries
pub row_within : (row rows cols : ℕ) → row < rows → row * cols + cols ≤ rows * cols
row_within row rows cols l =
    let next : row + 1 ≤ rows = omega arith in
    let bound = mul-le-mul_right cols next in
    omega arith
