-- Laws of weights and of their sums.
use Rattle.std.specs.List.Sorted.{IsPermutation}
use Rattle.std.specs.Prelude.{All, List, [], length, map, sum, suc, zero, ℕ, ◌*◌, ◌+◌, ◌/◌, ◌^◌, ◌↔◌, ◌∷◌, ◌≡◌, ◌≤◌}
use Rattle.mb_matrix.specs.Ascending.{occurrences}
use Rattle.mb_matrix.specs.Measure.{AreWeights, Weighting}
use Rattle.mb_tables.specs.Lists.{In}
use Rattle.mb_weights.specs.Binomial.{ways}
use Rattle.mb_weights.specs.PValue.{below_of, whole_of}
use Rattle.mb_weights.specs.Weight.{factorial, group_count, in_group, multinomial, powers, product, weight_of}

-- the division in the multinomial coefficient leaves no remainder
abbrev pub MultinomialIsExact : Type 0
MultinomialIsExact =
    (u : List ℕ) → multinomial u * product (map factorial u) ≡ factorial (sum u)

-- Pascal's rule gives the quotient of factorials, which at least doubles with each thing that is
-- chosen; a multinomial coefficient is a product of binomial ones: each count among itself and
-- those behind it
pub record BinomialsAgree : Type 0 where
  pub quotient : (n k : ℕ) → ways n k ≡ factorial (n + k) / (factorial n * factorial k)
  pub doubles : (n k : ℕ) → k ≤ n → 2 ^ k ≤ ways n k
  pub none : multinomial [] ≡ 1
  pub one_more : (x : ℕ) (u : List ℕ) → multinomial (x ∷ u) ≡ ways (sum u) x * multinomial u

-- no table's weight is 0
abbrev pub WeightsArePositive : Type 0
WeightsArePositive =
    (measure : Weighting) → AreWeights measure.groups measure.bases →
    (u : List ℕ) → length u ≡ length measure.bases → 1 ≤ weight_of measure u

-- a cell in a group of its own whose base number is 1 has no part in the weight
abbrev pub OwnGroupHasNoPart : Type 0
OwnGroupHasNoPart =
    (measure : Weighting) → AreWeights measure.groups measure.bases →
    (u : List ℕ) → length u ≡ length measure.bases →
    (g x : ℕ) → All (λ h. h ≡ g → ⊥) measure.groups →
    weight_of (record measure { groups = g ∷ measure.groups; bases = 1 ∷ measure.bases }) (x ∷ u)
    ≡ weight_of measure u

-- the product of the factorials of the totals of the first n groups
unfoldable pub group_factorials : ℕ → List ℕ → List ℕ → ℕ
group_factorials zero groups u = 1
group_factorials (suc n) groups u =
    group_factorials n groups u * factorial (sum (in_group n groups u))

-- a weight times the product of the count! is the product of the base ^ count times a number of
-- the groups' totals alone, which the margins fix: so on a fiber it goes by base ^ count / count!
abbrev pub WeightByFactorials : Type 0
WeightByFactorials =
    (measure : Weighting) → AreWeights measure.groups measure.bases →
    (u : List ℕ) → length u ≡ length measure.bases →
    weight_of measure u * product (map factorial u)
    ≡ group_factorials (group_count measure.groups) measure.groups u * powers measure.bases u

-- the sums over some tables are the same in any order of these
pub record SumsIgnoreOrder : Type 0 where
  pub whole : (measure : Weighting) (tables others : List (List ℕ)) →
      IsPermutation tables others → whole_of measure tables ≡ whole_of measure others
  pub below : (measure : Weighting) (u : List ℕ) (tables others : List (List ℕ)) →
      IsPermutation tables others → below_of measure u tables ≡ below_of measure u others

-- two lists with the same tables, each once, differ in the order alone
abbrev pub SameTablesOnce : Type 0
SameTablesOnce =
    (tables others : List (List ℕ)) → ((v : List ℕ) → In v tables ↔ In v others) →
    ((v : List ℕ) → In v tables → occurrences v tables ≡ 1) →
    ((v : List ℕ) → In v others → occurrences v others ≡ 1) →
    IsPermutation tables others
