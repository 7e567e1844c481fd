-- The limit of lists of rules.
use Rattle.std.specs.Prelude.{ℕ}

-- the most rules of a list: 64 to begin with, and one for each look
abbrev pub most_rules : ℕ
most_rules = 1000064
