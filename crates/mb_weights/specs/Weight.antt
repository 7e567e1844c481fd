-- The weight of a contingency table: a whole number that is proportional, among the tables of one
-- fiber, to the table's conditional probability given its margins, which goes by the product of
-- base ^ count / count! over the cells (Agresti 1992; Diaconis and Sturmfels 1998).
use Rattle.std.specs.Prelude.{List, [], cond, map, max, sum, suc, zero, ℕ, ◌*◌, ◌/◌, ◌==◌, ◌^◌, ◌∷◌}
use Rattle.mb_matrix.specs.Measure.{Weighting}

-- n!
unfoldable pub factorial : ℕ → ℕ
factorial zero = 1
factorial (suc n) = suc n * factorial n

-- the product of numbers
unfoldable pub product : List ℕ → ℕ
product [] = 1
product (x ∷ xs) = x * product xs

-- the multinomial coefficient of counts: the factorial of their sum over the product of theirs
abbrev pub multinomial : List ℕ → ℕ
multinomial u = factorial (sum u) / product (map factorial u)

-- the counts of the cells that stand in group g
unfoldable pub in_group : ℕ → List ℕ → List ℕ → List ℕ
in_group g [] u = []
in_group g (h ∷ groups) [] = []
in_group g (h ∷ groups) (x ∷ u) = cond (h == g) (x ∷ in_group g groups u) (in_group g groups u)

-- so many groups, numbered from 0, hold all cells
unfoldable pub group_count : List ℕ → ℕ
group_count [] = 0
group_count (h ∷ groups) = max (suc h) (group_count groups)

-- the product of the multinomial coefficients of the first n groups
unfoldable pub coefficients : ℕ → List ℕ → List ℕ → ℕ
coefficients zero groups u = 1
coefficients (suc n) groups u = coefficients n groups u * multinomial (in_group n groups u)

-- the product of the base numbers, each to the power of its cell's count
unfoldable pub powers : List ℕ → List ℕ → ℕ
powers [] u = 1
powers (b ∷ bases) [] = 1
powers (b ∷ bases) (x ∷ u) = b ^ x * powers bases u

-- the weight of a table: over all groups the multinomial coefficient of the group's counts, times
-- over all cells the base number to the power of the count
abbrev pub weight_of : Weighting → List ℕ → ℕ
weight_of measure u =
    coefficients (group_count measure.groups) measure.groups u * powers measure.bases u
