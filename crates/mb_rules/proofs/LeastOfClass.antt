-- Each class has a least monomial, found by a search of the class, and where classes meet, each
-- member leads to it.
use Rattle.std.proofs.Common.{Bool, List, [], ap, arith, false, inl, inr, length, refl, subst, sym, true, ℕ, ◌∙◌, ◌∷◌, ◌≡◌, ◌⊎◌}
use Rattle.std.specs.Ordering.{is_lt}
use Rattle.std.specs.declared.cmp.Ordering.TheVariants.{Less}
use Rattle.std.specs.declared.cmp.Ordering.{Ordering}
use lib.WfN.{lt-wf_rel}
use mathlib.Core.WellFounded.InvImage
use mathlib.Core.WellFounded.{fix}
use Rattle.mb_matrix.proofs.FillLaws.{fill-has, fill-only, length-margins, margins-plus}
use Rattle.mb_matrix.specs.Fiber.{AreColumns, fill, margins}
use Rattle.mb_order.specs.Monomial.{Monomial}
use Rattle.mb_order.specs.Order.{IsOrder}
use Rattle.mb_order.specs.Rewriting.{AreValid, Leads, LeadsBy, Rule, Step}
use Rattle.mb_rules.proofs.Confluence.{lowers, lt-Less, rank, step_down, step_weight, step_wide}
use Rattle.mb_rules.specs.Classes.{ClassesMeet, IsLeast, ReachLeast}
use Rattle.mb_rules.specs.NormalForm.{IsIrreducible}
use Rattle.mb_tables.proofs.VectorLaws.{length-plus}
use Rattle.mb_tables.specs.Lists.{In}
use Rattle.mb_tables.specs.Vectors.{plus}

module _ (d : ℕ) (columns : List (List ℕ)) (compare : Monomial → Monomial →
    Ordering) (fit : AreColumns d columns) (order : IsOrder (length columns) compare) where
  -- a member of the class that is below
  abbrev Below : Monomial → Monomial → Type 0
  Below m q = (length q ≡ length columns) × (margins d columns q ≡ margins d columns m)
      × (compare q m ≡ Less)

  -- one of the list is below, or none is
  some_below : (m : Monomial) (list : List Monomial) →
      ((q : Monomial) × In q list × (compare q m ≡ Less))
      ⊎ ((q : Monomial) → In q list → compare q m ≡ Less → ⊥)
  unfolding In
  some_below m [] = inr (λ q i e. absurd i)
  some_below m (x ∷ list) = by (is_lt (compare x m)) refl (some_below m list)
    where
      by : (t : Bool) → is_lt (compare x m) ≡ t →
          ((q : Monomial) × In q list × (compare q m ≡ Less))
          ⊎ ((q : Monomial) → In q list → compare q m ≡ Less → ⊥) →
          ((q : Monomial) × In q (x ∷ list) × (compare q m ≡ Less))
          ⊎ ((q : Monomial) → In q (x ∷ list) → compare q m ≡ Less → ⊥)
      by true e r = inl (x, inl refl, lt-Less (compare x m) e)
      by false e (inl r) = inl (r.0, inr r.1, r.2)
      by false e (inr r) = inr (λ q i. elim i as (λ z. compare q m ≡ Less → ⊥) [
        | inl g ↦ λ l.
            let a : is_lt (compare x m) ≡ true =
            subst (λ y. is_lt (compare y m) ≡ true) g (ap is_lt l) in
            cc
        | inr j ↦ r q j
      ])

  -- a monomial has one of its class below it, or is the least
  pub least_or_not : (m : Monomial) → ((q : Monomial) × Below m q) ⊎ IsLeast d columns compare m
  least_or_not m =
      let b = margins d columns m in
      let high = length-margins d columns m fit in
      elim (some_below m (fill columns b)) [
        | inl r ↦ (let o = fill-only d columns fit r.0 b high r.1 in inl (r.0, (o.0, o.1, r.2)))
        | inr r ↦ inr (λ q w e l. r q (fill-has d columns fit q b high w e) l)
      ]

  -- the least of a class
  abbrev Least : Monomial → Type 0
  Least m = (p : Monomial) × (length p ≡ length columns)
      × (margins d columns p ≡ margins d columns m) × IsLeast d columns compare p

  -- the least of a class is so for each of its members
  least_as : (m q : Monomial) → margins d columns q ≡ margins d columns m → Least q → Least m
  least_as m q e l = (l.0, l.1, l.2 ∙ e, l.3)

  -- each class has a least member
  pub least_of : (m : Monomial) → length m ≡ length columns → Least m
  least_of m w =
      fix {C = λ m. length m ≡ length columns →
      Least m} (InvImage.wf (rank d columns compare) lt-wf_rel.wf)
      (λ m below w. elim (least_or_not m) [
        | inl r ↦
            least_as m r.0 (r.1).1
            (below r.0
            (lowers d columns compare [] fit order (λ k rule e. cc) m r.0 (r.1).0 (r.1).1 (r.1).2)
            (r.1).0)
        | inr h ↦ (m, w, refl, h)
      ]) m w

  -- a divisor of a least monomial is least
  pub least_divisor : (l rest : Monomial) → length l ≡ length columns →
      length rest ≡ length columns → IsLeast d columns compare (plus l rest) →
      IsLeast d columns compare l
  least_divisor l rest w v h p pw e low =
      h (plus p rest) (let a = length-plus p rest in omega arith)
      (margins-plus d columns p rest fit ∙ ap (λ x. plus x (margins d columns rest)) e
      ∙ sym (margins-plus d columns l rest fit))
      (order.added p l rest pw w v ∙ low)

  module _ (rules : List Rule) (valid : AreValid d columns compare rules) where
    step_below : (k : ℕ) (m p : Monomial) → Step rules k m p → length m ≡ length columns → Below m p
    step_below k m p s w = (
      step_wide d columns compare rules fit order valid k m p s w,
      sym
          (step_weight d columns compare rules fit order valid k m p s),
      step_down d columns compare
          rules fit order valid k m p s w,
    )

    -- nothing follows the least
    ends : (trace : List ℕ) (p c : Monomial) → length p ≡ length columns →
        IsLeast d columns compare p → LeadsBy rules trace p c → p ≡ c
    unfolding LeadsBy
    ends [] p c w h l = l
    ends (k ∷ trace) p c w h l = let b = step_below k p l.0 l.1 w in absurd (h l.0 b.0 b.1 b.2)

    pub reach_least : ClassesMeet d columns rules → ReachLeast d columns compare rules
    reach_least meet m p w v e h =
        let met = meet m p w v (sym e) in
        subst (λ c. Leads rules m c) (sym (ends (met.2).0 p met.0 v h (met.2).1)) met.1

    unmoved : (trace : List ℕ) (m p : Monomial) → IsIrreducible rules m → LeadsBy rules trace m p →
        m ≡ p
    unfolding LeadsBy
    unmoved [] m p h l = l
    unmoved (k ∷ trace) m p h l = absurd (h k l.0 l.1)

    pub irreducible_least : ReachLeast d columns compare rules → (m : Monomial) →
        length m ≡ length columns → IsIrreducible rules m → IsLeast d columns compare m
    irreducible_least reach m w h =
        let p = least_of m w in
        let l = reach m p.0 w p.1 p.2 p.3 in
        subst (λ x. IsLeast d columns compare x) (sym (unmoved l.0 m p.0 h l.1)) p.3
