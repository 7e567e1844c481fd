-- The completion run: Buchberger's algorithm (1965) for differences of two monomials, which is
-- Knuth and Bendix's completion (1970) of rules. Its looks, the critical pairs examined, are
-- counted against a budget.
--
-- The pairs (i, j), i < j, of all rules there are go in the order of j, for one j in that of i;
-- where two left sides have no symbol in common, their pair needs no look. The pairs of a longer
-- list of rules begin with those of a shorter one, so the look after so many looks is simply the
-- pair of that number.
use Rattle.std.specs.Prelude.{List, None, Some, [], slice_get, suc, true, zero, ℕ, ◌++◌, ◌<◌, ◌∷◌, ◌≡◌, ◌⊎◌}
use Rattle.std.specs.declared.cmp.Ordering.TheVariants.{Greater}
use Rattle.std.specs.declared.cmp.Ordering.{Ordering}
use Rattle.mb_completion.specs.Start.{births_of}
use Rattle.mb_matrix.specs.Matrix.{Design}
use Rattle.mb_order.specs.Monomial.{Monomial}
use Rattle.mb_order.specs.Peak.{peak, shared_pairs}
use Rattle.mb_order.specs.Rewriting.{Rule, made}
use Rattle.mb_order.specs.Weight.{IsLight}
use Rattle.mb_order.specs.declared.order.Order.{Order}
use Rattle.mb_rules.specs.NormalForm.{NormalBy}
use Rattle.mb_rules.specs.RuleList.{cmp_of}
use Rattle.mb_tables.specs.Vectors.{shares}

-- how a run ends: with these rules after so many looks; with the pair that comes next when the
-- looks are used up; or at the pair whose peak is too heavy
pub data Outcome : Type 0 where
  Finished : (final : List Rule) (looks : ℕ) → Outcome
  Unfinished : (looks i j : ℕ) → Outcome
  TooHeavy : (i j : ℕ) → Outcome

-- what two normal forms add: no rule where they are equal, else the rule from the larger to the
-- smaller
abbrev pub Adds : (Monomial → Monomial → Ordering) → Monomial → Monomial → List Rule → Type 0
Adds compare p q more =
    ((p ≡ q) × (more ≡ []))
    ⊎ (((compare p q ≡ Greater) × (more ≡ (p, q) ∷ []))
    ⊎ ((compare q p ≡ Greater) × (more ≡ (q, p) ∷ [])))

-- a look at a pair of rules: the peak is not too heavy, the normal forms of the pair's two
-- sides, by all rules there are, add `more`
pub record IsLook
    (matrix : Design) (order : Order) (rules : List Rule) (low high : Rule)
    (more : List Rule) : Type 0 where
  pub light : IsLight matrix (peak low high)
  pub low_trace : List ℕ
  pub high_trace : List ℕ
  pub low_form : Monomial
  pub high_form : Monomial
  pub low_normal : NormalBy rules low_trace (made low (peak low high)) low_form
  pub high_normal : NormalBy rules high_trace (made high (peak low high)) high_form
  pub adds : Adds (cmp_of order matrix) low_form high_form more

-- after so many looks, with these rules and this budget of looks left, the run ends so: it is
-- finished where no pair is left; else the next pair is the end where the budget is used up, or
-- where its peak is too heavy; and else it is a look, and the run goes on
unfoldable pub Runs : Design → Order → ℕ → List Rule → ℕ → Outcome → Type 0
Runs matrix order zero rules looks end =
    ((slice_get (shared_pairs rules) looks ≡ None) × (end ≡ Finished rules looks))
    ⊎ ((i : ℕ) × (j : ℕ) × (slice_get (shared_pairs rules) looks ≡ Some (i, j))
    × (end ≡ Unfinished looks i j))
Runs matrix order (suc budget) rules looks end =
    ((slice_get (shared_pairs rules) looks ≡ None) × (end ≡ Finished rules looks))
    ⊎ ((i : ℕ) × (j : ℕ) × (low : Rule) × (high : Rule)
    × (slice_get (shared_pairs rules) looks ≡ Some (i, j))
    × (slice_get rules i ≡ Some low) × (slice_get rules j ≡ Some high)
    × (((IsLight matrix (peak low high) → ⊥) × (end ≡ TooHeavy i j))
    ⊎ ((more : List Rule) × IsLook matrix order rules low high more
    × Runs matrix order budget (rules ++ more) (suc looks) end)))

-- the run of a matrix and an order with so many looks ends so
abbrev pub RunEnds : Design → Order → ℕ → Outcome → Type 0
RunEnds matrix order pairs end = Runs matrix order pairs (births_of matrix) 0 end

-- no left side is too heavy
abbrev pub AreLight : Design → List Rule → Type 0
AreLight matrix rules =
    (k : ℕ) (rule : Rule) → slice_get rules k ≡ Some rule → IsLight matrix rule.0

-- no peak of two rules whose left sides share a symbol is too heavy
abbrev pub AreLightPeaks : Design → List Rule → Type 0
AreLightPeaks matrix rules =
    (i j : ℕ) (low high : Rule) → i < j →
    slice_get rules i ≡ Some low → slice_get rules j ≡ Some high → shares low.0 high.0 ≡ true →
    IsLight matrix (peak low high)
