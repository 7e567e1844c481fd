-- Each monomial has one normal form, since each step goes down in a finite class.
use Rattle.std.proofs.Common.{Bool, List, Some, [], ap, arith, get_or, inl, inr, length, not, refl, slice_get, subst, suc, sym, true, zero, ℕ, ◌<◌, ◌∙◌, ◌∷◌, ◌≡◌, ◌≤◌, ◌⊎◌}
use Rattle.std.proofs.lemmas.List.Sums.{fails_before_first, passes_at_first, prefix_len-le-length}
use Rattle.std.proofs.lemmas.Option.{slice_get-get_or}
use Rattle.std.specs.List.{position_or_len}
use Rattle.std.specs.declared.cmp.Ordering.{Ordering}
use lib.WfN.{lt-wf_rel}
use mathlib.Core.WellFounded.InvImage
use mathlib.Core.WellFounded.{fix}
use Rattle.mb_matrix.specs.Fiber.{AreColumns}
use Rattle.mb_order.specs.Monomial.{Monomial}
use Rattle.mb_order.specs.Order.{IsOrder}
use Rattle.mb_order.specs.Rewriting.{AreValid, LeadsBy, Rule, Step, made}
use Rattle.mb_rules.proofs.Confluence.{rank, step_lowers, step_wide}
use Rattle.mb_rules.proofs.LocalConfluence.{alone}
use Rattle.mb_rules.specs.NormalForm.{IsFirst, IsIrreducible, NormalBy}
use Rattle.mb_order.proofs.StepLaws.{made-step, step-divides}
use Rattle.mb_tables.proofs.ListLaws.{place-within}
use Rattle.mb_tables.specs.Vectors.{minus, plus, within}

-- the left side of a rule divides the monomial
abbrev fits : Monomial → Rule → Bool
fits m rule = within rule.0 m

-- the rule at a place, with a default
get-some : (rules : List Rule) (k : ℕ) (rule e : Rule) → slice_get rules k ≡ Some rule →
    get_or rules k e ≡ rule
get-some [] k rule e h = cc
get-some (r ∷ rules) zero rule e h = cc
get-some (r ∷ rules) (suc k) rule e h = get-some rules k rule e h

module _ (d : ℕ) (columns : List (List ℕ)) (compare : Monomial → Monomial →
    Ordering) (rules : List Rule) (fit : AreColumns d columns)
    (order : IsOrder (length columns) compare) (valid : AreValid d columns compare rules) where
  -- in place of a rule where there is none
  no_rule : Rule
  no_rule = ([], [])

  -- a rule that fits makes a step
  fits-step : (k : ℕ) (m : Monomial) → length m ≡ length columns → k < length rules →
      within (get_or rules k no_rule).0 m ≡ true → Step rules k m (made (get_or rules k no_rule) m)
  fits-step k m w h f =
      let rule = get_or rules k no_rule in
      let e = slice_get-get_or rules k no_rule h in
      let v = valid k rule e in
      made-step rules k rule e m (made rule m) (v.left_wide ∙ sym w) (v.right_wide ∙ sym w) f refl

  -- a rule that makes a step fits
  step-fits : (k : ℕ) (m p : Monomial) → Step rules k m p →
      (k < length rules) × (within (get_or rules k no_rule).0 m ≡ true)
  step-fits k m p s = (
    place-within rules k s.0 s.2,
    ap (λ (r : Rule). within r.0 m) (get-some rules k s.0 no_rule s.2)
        ∙ step-divides rules k s.0 s.2 m p s,
  )

  -- a rule takes a monomial to one monomial
  one_result : (k : ℕ) (m p q : Monomial) → Step rules k m p → Step rules k m q → p ≡ q
  one_result k m p q s t =
      let r : t.0 ≡ s.0 = cc in
      let v = valid k s.0 s.2 in
      let e : m ≡ plus (s.0).0 t.1 = t.3 ∙ ap (λ (x : Rule). plus x.0 t.1) r in
      let f : q ≡ plus (s.0).1 t.1 = t.4 ∙ ap (λ (x : Rule). plus x.1 t.1) r in
      s.4 ∙ alone (s.0).0 (s.0).1 m s.1 t.1 (v.left_wide ∙ sym v.right_wide) s.3 e ∙ sym f

  -- the first rule that fits is a rule, or the end
  first-le : (m : Monomial) → position_or_len (fits m) rules ≤ length rules
  first-le m = prefix_len-le-length (λ x. not (fits m x)) rules

  -- some trace and some monomial are its normal form
  abbrev HasNormal : Monomial → Type 0
  HasNormal m = (trace : List ℕ) × (p : Monomial) × NormalBy rules trace m p

  -- each monomial has a normal form
  pub has_normal : (m : Monomial) → length m ≡ length columns → HasNormal m
  unfolding NormalBy
  has_normal m w =
      fix {C = λ m. length m ≡ length columns →
      HasNormal m} (InvImage.wf (rank d columns compare) lt-wf_rel.wf)
      (λ m below w.
      let k = position_or_len (fits m) rules in
      let le = first-le m in
      let cases : (k ≡ length rules) ⊎ (k < length rules) = grind arith in
      elim cases [
        | inl e ↦ ([], m, (e, refl))
        | inr l ↦ (
            let rule = get_or rules k no_rule in
            let next = plus rule.1 (minus m rule.0) in
            let s = fits-step k m w l (passes_at_first (fits m) rules no_rule l) in
            let rest =
            below next (step_lowers d columns compare rules fit order valid k m next s w)
            (step_wide d columns compare rules fit order valid k m next s w) in
            (k ∷ rest.0, rest.1, (next, refl, s, rest.2)))
      ]) m w

  -- what no rule is first for, no rule fits
  none-fits : (m : Monomial) → IsFirst rules (length rules) m → IsIrreducible rules m
  none-fits m e k p s =
      let f = step-fits k m p s in
      let low : k < position_or_len (fits m) rules = let a = f.0 in omega arith in
      let g = fails_before_first (fits m) rules k no_rule low in
      cc

  -- it leads to its normal form, and no rule fits there
  pub normal-leads : (trace : List ℕ) (m p : Monomial) → NormalBy rules trace m p →
      LeadsBy rules trace m p × IsIrreducible rules p
  unfolding NormalBy LeadsBy
  normal-leads [] m p h = (h.1, subst (IsIrreducible rules) h.1 (none-fits m h.0))
  normal-leads (k ∷ trace) m p h = let r = normal-leads trace h.0 p h.3 in ((h.0, h.2, r.0), r.1)

  -- it has one normal form, by one trace
  pub one_normal : (s t : List ℕ) (m p q : Monomial) → NormalBy rules s m p → NormalBy rules t m q →
      (s ≡ t) × (p ≡ q)
  unfolding NormalBy
  one_normal [] [] m p q h g = (refl, sym h.1 ∙ g.1)
  one_normal [] (j ∷ t) m p q h g = absurd (none-fits m h.0 j g.0 g.2)
  one_normal (i ∷ s) [] m p q h g = absurd (none-fits m g.0 i h.0 h.2)
  one_normal (i ∷ s) (j ∷ t) m p q h g =
      let e : i ≡ j = sym h.1 ∙ g.1 in
      let f : h.0 ≡ g.0 = one_result j m h.0 g.0 (subst (λ k. Step rules k m h.0) e h.2) g.2 in
      let r = one_normal s t g.0 p q (subst (λ x. NormalBy rules s x p) f h.3) g.3 in
      (cons_same i j s t e r.0, r.1)
    where
      cons_same : (i j : ℕ) (s t : List ℕ) → i ≡ j → s ≡ t → (i ∷ s) ≡ (j ∷ t)
      cons_same i j s t e f = cc
