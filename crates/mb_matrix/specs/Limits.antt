-- The limit of design matrices.
use Rattle.std.specs.Prelude.{ℕ}

-- the largest entry
abbrev pub largest_entry : ℕ
largest_entry = 1000
