-- By a reduced basis a normal form is the least of its class. So monomials of equal weight have
-- one: the two of each start have, and the two of each join.
use Rattle.std.proofs.Common.{List, length, sym, ℕ, ◌∙◌, ◌≡◌}
use Rattle.std.specs.declared.cmp.Ordering.{Ordering}
use Rattle.mb_completion.proofs.FromClasses.{AreAlike}
use Rattle.mb_completion.proofs.MinimalLefts.{reduced_all_valid, reduced_reach, same_least}
use Rattle.mb_completion.proofs.Reducing.{leads-same}
use Rattle.mb_matrix.specs.Fiber.{AreColumns, margins}
use Rattle.mb_order.specs.Monomial.{Monomial}
use Rattle.mb_order.specs.Order.{IsOrder}
use Rattle.mb_order.specs.Rewriting.{LeadsBy, Rule}
use Rattle.mb_rules.proofs.LeastOfClass.{irreducible_least}
use Rattle.mb_rules.proofs.NormalForms.{normal-leads}
use Rattle.mb_rules.specs.Classes.{IsLeast}
use Rattle.mb_rules.specs.NormalForm.{NormalBy}
use Rattle.mb_rules.specs.ReducedBasis.{IsReduced}

module _ (d : ℕ) (columns : List (List ℕ)) (compare : Monomial → Monomial →
    Ordering) (rules : List Rule) (fit : AreColumns d columns)
    (order : IsOrder (length columns) compare) (reduced : IsReduced d columns compare rules) where
  -- a trace leads to a normal form, which is the least of the class
  normal-least : (trace : List ℕ) (m p : Monomial) → length m ≡ length columns →
      NormalBy rules trace m p →
      LeadsBy rules trace m p × (length p ≡ length columns)
      × (margins d columns m ≡ margins d columns p) × IsLeast d columns compare p
  normal-least trace m p w h =
      let valid = reduced_all_valid d columns compare fit order rules reduced in
      let reach = reduced_reach d columns compare fit order rules reduced in
      let l = normal-leads d columns compare rules fit order valid trace m p h in
      let s = leads-same d columns compare fit order rules valid trace m p w l.0 in
      (l.0, s.0, s.1, irreducible_least d columns compare fit order rules valid reach p s.0 l.1)

  -- monomials of equal weight have one normal form
  pub one_form : (s t : List ℕ) (a b p q : Monomial) → AreAlike d columns a b →
      NormalBy rules s a p → NormalBy rules t b q →
      LeadsBy rules s a p × LeadsBy rules t b q × (p ≡ q)
  one_form s t a b p q alike h k =
      let l = normal-least s a p alike.0 h in
      let r = normal-least t b q alike.1 k in (
        l.0,
        r.0,
        same_least d columns compare fit order p q l.1 r.1 (sym l.2 ∙ alike.2 ∙ r.2) l.3 r.3,
      )
