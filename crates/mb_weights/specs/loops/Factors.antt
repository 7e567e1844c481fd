-- The weight as a product of factors, a cell each, from the last cell to the first.
use Rattle.std.specs.Prelude.{List, [], drop, length, sum, ℕ, ◌*◌, ◌<◌, ◌^◌, ◌∷◌, ◌≡◌}
use Rattle.mb_tables.specs.Vectors.{at}
use Rattle.mb_weights.specs.Binomial.{ways}
use Rattle.mb_weights.specs.Weight.{in_group}

-- the total of a group: its counts, summed
abbrev pub total_of : ℕ → List ℕ → List ℕ → ℕ
total_of g groups u = sum (in_group g groups u)

-- the factor of a cell whose group has a total of `rest` in the later cells: in how many ways its
-- count is chosen among both, times its base number to the power of the count
abbrev pub factor : ℕ → ℕ → ℕ → ℕ
factor rest b x = ways rest x * b ^ x

-- the product of the factors of all cells
unfoldable pub factors : List ℕ → List ℕ → List ℕ → ℕ
factors [] bases u = 1
factors (h ∷ groups) [] u = 1
factors (h ∷ groups) (b ∷ bases) [] = 1
factors (h ∷ groups) (b ∷ bases) (x ∷ u) =
    factor (total_of h groups u) b x * factors groups bases u

-- the product of the factors of the cells from one on
abbrev pub factors_from : ℕ → List ℕ → List ℕ → List ℕ → ℕ
factors_from cell groups bases u = factors (drop cell groups) (drop cell bases) (drop cell u)

-- the total of a group over the cells from one on
abbrev pub total_from : ℕ → ℕ → List ℕ → List ℕ → ℕ
total_from cell g groups u = total_of g (drop cell groups) (drop cell u)

-- how many groups have their totals kept, while cell after cell is taken: groups 0 to 63
abbrev pub kept_groups : ℕ
kept_groups = 64

-- the totals of these groups over the cells from one on
pub record AreTotals (totals : List ℕ) (cell : ℕ) (groups u : List ℕ) : Type 0 where
  pub each_kept : length totals ≡ kept_groups
  pub each : (g : ℕ) → g < kept_groups → at totals g ≡ total_from cell g groups u
