-- Rules that a reduction keeps, in order.
use Rattle.std.specs.Prelude.{List, [], ◌∷◌}
use Rattle.std.specs.declared.cmp.Ordering.TheVariants.{Equal, Greater, Less}
use Rattle.std.specs.declared.cmp.Ordering.{Ordering}
use Rattle.mb_order.specs.Monomial.{Monomial}
use Rattle.mb_order.specs.Rewriting.{Leads, Rule}
use Rattle.mb_rules.specs.NormalForm.{IsIrreducible}
use Rattle.mb_rules.specs.ReducedBasis.{IsMinimalLeft}

-- where a rule goes beside the first of a list, by how that one's left side compares
abbrev pub put_at : Ordering → Rule → Rule → List Rule → List Rule → List Rule
put_at Less rule first rest put = first ∷ put
put_at Equal rule first rest put = first ∷ rest
put_at Greater rule first rest put = rule ∷ (first ∷ rest)

-- a rule at its place among rules with ascending left sides; of one left side the rule that is
-- there stays
unfoldable pub put : (Monomial → Monomial → Ordering) → Rule → List Rule → List Rule
put compare rule [] = rule ∷ []
put compare rule (first ∷ rest) =
    put_at (compare first.0 rule.0) rule first rest (put compare rule rest)

-- a rule as the reduction keeps them
pub record IsKept (rules : List Rule) (rule : Rule) : Type 0 where
  pub minimal : IsMinimalLeft rules rule.0
  pub leads : Leads rules rule.0 rule.1
  pub ends : IsIrreducible rules rule.1
