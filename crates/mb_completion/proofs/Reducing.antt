-- Reducing gives the reduced basis, and there is one.
use Rattle.std.proofs.Common.{List, Some, [], ap, inl, inr, length, refl, subst, sym, ℕ, ◌∙◌, ◌∷◌, ◌≡◌}
use Rattle.std.specs.Ordering.{ordering_reverse}
use Rattle.std.specs.declared.cmp.Ordering.TheVariants.{Greater, Less}
use Rattle.std.specs.declared.cmp.Ordering.{Ordering}
use Rattle.mb_completion.proofs.MinimalLefts.{corner_minimal, minimal_corner, same_least}
use Rattle.mb_matrix.specs.Fiber.{AreColumns, margins}
use Rattle.mb_order.specs.Monomial.{Monomial}
use Rattle.mb_order.specs.Order.{IsOrder}
use Rattle.mb_order.specs.Rewriting.{AreValid, LeadsBy, Rule}
use Rattle.mb_rules.proofs.Confluence.{step_weight, step_wide}
use Rattle.mb_rules.proofs.LeastOfClass.{irreducible_least}
use Rattle.mb_rules.specs.Classes.{ReachLeast}
use Rattle.mb_rules.specs.ReducedBasis.{IsReduced, IsReduction, LeftsAscend}
use Rattle.mb_tables.proofs.ListLaws.{In-place, place-in}
use Rattle.mb_tables.specs.Lists.{In}

-- less is not greater
pub Less-not_Greater : Less ≡ Greater → ⊥
Less-not_Greater e = cc

module _ (compare : Monomial → Monomial → Ordering) (never : (a b : Monomial) → compare a b ≡ Less →
    compare b a ≡ Less → ⊥) where
  -- two ascending lists of the same rules are equal
  ascending_same : (xs ys : List Rule) → LeftsAscend compare xs → LeftsAscend compare ys →
      ((r : Rule) → In r xs → In r ys) → ((r : Rule) → In r ys → In r xs) → xs ≡ ys
  unfolding LeftsAscend In
  ascending_same [] [] a b f g = refl
  ascending_same [] (y ∷ ys) a b f g = absurd (g y (inl refl))
  ascending_same (x ∷ xs) [] a b f g = absurd (f x (inl refl))
  ascending_same (x ∷ xs) (y ∷ ys) a b f g =
      let first : x ≡ y =
      elim (f x (inl refl)) [
        | inl e ↦ e
        | inr i ↦
            elim (g y (inl refl)) [
              | inl e ↦ sym e
              | inr j ↦
                  absurd (never y.0 x.0 (b.0 x i) (a.0 y j))
            ]
      ] in
      let left : (r : Rule) → In r xs → In r ys =
      λ r i. elim (f r (inr i)) [
        | inl e ↦
            (let q : x ≡ r = first ∙ sym e in let low = a.0 r i in
            absurd (never x.0 r.0 low
            (subst (λ (s : Rule). compare s.0 x.0 ≡ Less) q
            (subst (λ (s : Rule). compare x.0 s.0 ≡ Less) (sym q) low))))
        | inr j ↦ j
      ] in
      let right : (r : Rule) → In r ys → In r xs =
      λ r i. elim (g r (inr i)) [
        | inl e ↦
            (let q : y ≡ r = sym first ∙ sym e in let low = b.0 r i in
            absurd (never y.0 r.0 low
            (subst (λ (s : Rule). compare s.0 y.0 ≡ Less) q
            (subst (λ (s : Rule). compare y.0 s.0 ≡ Less) (sym q) low))))
        | inr j ↦ j
      ] in
      let rest = ascending_same xs ys a.1 b.1 left right in
      cc

module _ (d : ℕ) (columns : List (List ℕ)) (compare : Monomial → Monomial →
    Ordering) (fit : AreColumns d columns) (order : IsOrder (length columns) compare) where
  -- of a corner there is one rule
  other_has : (some others : List Rule) → IsReduced d columns compare some →
      IsReduced d columns compare others → (r : Rule) → In r some → In r others
  other_has some others h g r i =
      let p = In-place some r i in
      let s = h.sound p.0 r p.1 in
      let o = g.all r.0 s.corner in
      let t = g.sound o.0 (r.0, o.1) o.2 in
      let e = same_least d columns compare fit order o.1 r.1 t.right_wide s.right_wide
      (sym t.equal_weight ∙ s.equal_weight) t.right_least s.right_least in
      let pair : (r.0, o.1) ≡ r = ap (λ x. let q : Rule = (r.0, x) in q) e in
      place-in others o.0 r (o.2 ∙ ap Some pair)

  -- two ascending lists of the reduced basis are equal
  pub one_reduced : (some others : List Rule) → IsReduced d columns compare some →
      LeftsAscend compare some → IsReduced d columns compare others → LeftsAscend compare others →
      some ≡ others
  one_reduced some others h a g b =
      ascending_same compare
      (λ x y l m. Less-not_Greater (sym l ∙ order.total.antisymm x y
      ∙ ap ordering_reverse m)) some others a b (other_has some others h g)
      (other_has others some g h)

  module _ (rules : List Rule) (valid : AreValid d columns compare rules) where
    pub leads-same : (trace : List ℕ) (m p : Monomial) → length m ≡ length columns →
        LeadsBy rules trace m p → (length p ≡ length columns)
        × (margins d columns m ≡ margins d columns p)
    unfolding LeadsBy
    leads-same [] m p w h = (sym (ap length h) ∙ w, ap (margins d columns) h)
    leads-same (k ∷ trace) m p w h =
        let a = step_wide d columns compare rules fit order valid k m h.0 h.1 w in
        let b = step_weight d columns compare rules fit order valid k m h.0 h.1 in
        let r = leads-same trace h.0 p a h.2 in
        (r.0, b ∙ r.1)

    pub reduction : ReachLeast d columns compare rules → (kept : List Rule) →
        IsReduction rules kept → IsReduced d columns compare kept
    reduction reach kept h = record {
      sound = λ k rule e.
          (let corner =
          minimal_corner d columns compare fit order rules valid reach rule.0
          (h.minimal k rule e) in
          let lead = h.leads k rule e in
          let s = leads-same lead.0 rule.0 rule.1 corner.wide lead.1 in
          record {
            corner = corner;
            right_wide = s.0;
            equal_weight = s.1;
            right_least =
                irreducible_least d columns compare fit order rules valid reach rule.1 s.0
                (h.ends k rule e);
          });
      all = λ l c. h.all l (corner_minimal d columns compare fit order rules valid reach l c);
    }
