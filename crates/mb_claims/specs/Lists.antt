-- How often a number stands in a list.
use Rattle.std.specs.Prelude.{List, [], count_by, ℕ, ◌==◌, ◌∷◌}
use Rattle.mb_tables.specs.Lists.{In}

-- how often the number stands in the list
abbrev pub occurrences : ℕ → List ℕ → ℕ
occurrences n list = count_by (λ m. m == n) list

-- no number stands twice in the list
abbrev pub AreDistinctKeys : List ℕ → Type 0
AreDistinctKeys [] = Unit {0}
AreDistinctKeys (n ∷ list) = (In n list → ⊥) × AreDistinctKeys list
