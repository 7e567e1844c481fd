-- Peaks of pairs of rules: the overlaps of critical pairs (Buchberger 1965).
use Rattle.std.specs.List.{filter, range_with_len}
use Rattle.std.specs.Prelude.{List, None, Option, Some, [], length, map, slice_get, suc, true, zero, ℕ, ◌++◌, ◌<◌, ◌≡◌}
use Rattle.mb_order.specs.Monomial.{Monomial}
use Rattle.mb_order.specs.Rewriting.{Meet, Rule, made}
use Rattle.mb_tables.specs.Vectors.{greater, shares}

-- the peak of two rules: the least common multiple of their left sides
abbrev pub peak : Rule → Rule → Monomial
peak low high = greater low.0 high.0

-- the sides of each pair of rules whose left sides share a symbol, which are what the two rules
-- make of the peak, lead to one monomial
abbrev pub PairsMeet : List Rule → Type 0
PairsMeet rules =
    (i j : ℕ) (low high : Rule) → i < j →
    slice_get rules i ≡ Some low → slice_get rules j ≡ Some high → shares low.0 high.0 ≡ true →
    Meet rules (made low (peak low high)) (made high (peak low high))

-- all pairs of numbers i below j below n, by j and then by i
unfoldable pub pairs_below : ℕ → List (ℕ × ℕ)
pairs_below zero = []
pairs_below (suc j) =
    pairs_below j ++ map (λ i. let p : ℕ × ℕ = (i, j) in p) (range_with_len 0 j)

-- the left side, where there is a rule
abbrev pub left_in : Option Rule → Monomial
left_in None = []
left_in (Some rule) = rule.0

-- the right side, where there is a rule
abbrev pub right_in : Option Rule → Monomial
right_in None = []
right_in (Some rule) = rule.1

-- the left side of a rule, by its number
abbrev pub left_of : List Rule → ℕ → Monomial
left_of rules k = left_in (slice_get rules k)

-- the right side of a rule, by its number
abbrev pub right_of : List Rule → ℕ → Monomial
right_of rules k = right_in (slice_get rules k)

-- both sides of a rule, by its number
abbrev pub sides_of : List Rule → ℕ → Rule
sides_of rules k = (left_of rules k, right_of rules k)

-- the critical pairs that count: of rules whose left sides share a symbol, by j and then by i
abbrev pub shared_pairs : List Rule → List (ℕ × ℕ)
shared_pairs rules =
    filter (λ (p : ℕ × ℕ). shares (left_of rules p.0) (left_of rules p.1))
    (pairs_below (length rules))
