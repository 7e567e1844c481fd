-- Numbers whose size is cut at 2 ^ 32, past every limit, so that one of any length is read in 64
-- bits.
use Rattle.std.specs.Prelude.{min, negsuc, pos, ℕ, ℤ}

-- the number, or 2 ^ 32 where it is greater
abbrev pub capped : ℕ → ℕ
capped n = min n 4294967296

-- the number, or 2 ^ 32 with its sign where its size is greater
abbrev pub capped_signed : ℤ → ℤ
capped_signed (pos n) = pos (min n 4294967296)
capped_signed (negsuc n) = negsuc (min n 4294967295)
