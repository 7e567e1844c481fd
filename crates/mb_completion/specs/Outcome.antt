-- The outcome of a completion run, computed. A run has one outcome, which is this one.
use Rattle.std.specs.List.{find}
use Rattle.std.specs.Option.{option_map, option_map_or}
use Rattle.std.specs.Prelude.{List, None, Option, Some, [], if◌then◌else◌, length, slice_get, suc, zero, ℕ, ◌++◌, ◌∷◌}
use Rattle.std.specs.declared.cmp.Ordering.TheVariants.{Equal, Greater, Less}
use Rattle.std.specs.declared.cmp.Ordering.{Ordering}
use Rattle.mb_certificate.specs.FirstFault.{is_light}
use Rattle.mb_completion.specs.Run.{Finished, Outcome, TooHeavy, Unfinished}
use Rattle.mb_completion.specs.Start.{births_of}
use Rattle.mb_matrix.specs.Fiber.{fill}
use Rattle.mb_matrix.specs.Matrix.{Design}
use Rattle.mb_order.specs.Monomial.{Monomial}
use Rattle.mb_order.specs.Peak.{peak, shared_pairs, sides_of}
use Rattle.mb_order.specs.Rewriting.{Rule, made}
use Rattle.mb_order.specs.Weight.{symbols_of, weights}
use Rattle.mb_order.specs.declared.order.Order.{Order}
use Rattle.mb_rules.specs.RuleList.{cmp_of}
use Rattle.mb_tables.specs.Vectors.{within}

-- what the first rule that fits makes of a monomial, where one fits
abbrev pub lowered : List Rule → Monomial → Option Monomial
lowered rules m =
    option_map (λ (rule : Rule). made rule m) (find (λ (rule : Rule). within rule.0 m) rules)

-- a monomial after as many such steps as there are, up to a number of them
unfoldable pub lowered_by : ℕ → List Rule → Monomial → Monomial
lowered_by zero rules m = m
lowered_by (suc steps) rules m =
    option_map_or (λ next. lowered_by steps rules next) (lowered rules m) m

-- the normal form of a monomial: each step goes down among the monomials of its weight, so there
-- are fewer steps than such monomials
unfoldable pub normal_form : Design → List Rule → Monomial → Monomial
normal_form matrix rules m =
    lowered_by (length (fill (symbols_of matrix) (weights matrix m))) rules m

-- the rule from the larger of two monomials to the smaller, where they differ
abbrev pub rule_between : Ordering → Monomial → Monomial → List Rule
rule_between Less p q = (q, p) ∷ []
rule_between Equal p q = []
rule_between Greater p q = (p, q) ∷ []

-- what a look at a pair of rules adds: the rule between the normal forms of the two sides of its
-- peak, by all rules there are
unfoldable pub look_adds : Design → Order → List Rule → Rule → Rule → List Rule
look_adds matrix order rules low high =
    let p = normal_form matrix rules (made low (peak low high)) in
    let q = normal_form matrix rules (made high (peak low high)) in
    rule_between (cmp_of order matrix p q) p q

-- the outcome where this pair is the next, or none is left
abbrev pub at_pair : List Rule → ℕ → (ℕ → ℕ → Outcome) → Option (ℕ × ℕ) → Outcome
at_pair rules looks outcome None = Finished rules looks
at_pair rules looks outcome (Some pair) = outcome pair.0 pair.1

-- the outcome from these rules and looks on, with this budget of looks left
unfoldable pub outcome_from : Design → Order → ℕ → List Rule → ℕ → Outcome
outcome_from matrix order zero rules looks =
    at_pair rules looks (λ i j. Unfinished looks i j) (slice_get (shared_pairs rules) looks)
outcome_from matrix order (suc budget) rules looks =
    at_pair rules looks (λ i j.
    let low = sides_of rules i in
    let high = sides_of rules j in
    if is_light matrix (peak low high)
    then outcome_from matrix order budget
    (rules ++ look_adds matrix order rules low high) (suc looks)
    else TooHeavy i j) (slice_get (shared_pairs rules) looks)

-- the outcome of the run of a matrix and an order with so many looks
abbrev pub outcome_of : Design → Order → ℕ → Outcome
outcome_of matrix order pairs = outcome_from matrix order pairs (births_of matrix) 0
