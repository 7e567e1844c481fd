-- The order of paths as a relation.
use Rattle.std.specs.Prelude.{List, ℤ, ◌≡◌, ◌⊎◌}
use Rattle.std.specs.declared.cmp.Ordering.TheVariants.{Less}
use Rattle.mb_rings.specs.ShortestPath.{path_cmp}

-- one path comes before another
abbrev pub IsBefore : List ℤ → List ℤ → Type 0
IsBefore p q = path_cmp p q ≡ Less

-- or is that one
abbrev pub IsUpTo : List ℤ → List ℤ → Type 0
IsUpTo p q = (p ≡ q) ⊎ IsBefore p q
