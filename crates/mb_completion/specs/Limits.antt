-- The limit of completion runs.
use Rattle.std.specs.Prelude.{ℕ}

-- the most looks that a run may be allowed
abbrev pub most_looks : ℕ
most_looks = 1000000
