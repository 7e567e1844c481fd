-- The limits of monomials.
use Rattle.std.specs.Prelude.{ℕ}

-- the largest exponent
abbrev pub largest_exponent : ℕ
largest_exponent = 65535

-- the most that a monomial may weigh on a margin
abbrev pub most_weight : ℕ
most_weight = 65535
