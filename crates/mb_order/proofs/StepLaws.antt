-- Steps: a rule takes a monomial somewhere exactly where its left side divides it.
use Rattle.std.proofs.Common.{List, Some, ap, arith, length, slice_get, true, ℕ, ◌≡◌}
use Rattle.mb_order.specs.Monomial.{Monomial}
use Rattle.mb_order.specs.Rewriting.{Rule, Step, made}
use Rattle.mb_tables.proofs.VectorLaws.{at-minus, at-plus, length-minus, length-plus, same, within-at, within-yes}
use Rattle.mb_tables.specs.Vectors.{at, minus, plus, within}

module _ (rules : List Rule) (k : ℕ) (rule : Rule) (here : slice_get rules k ≡ Some rule) where
  -- the rule of a step is the one of its number
  one_rule : (m p : Monomial) → (s : Step rules k m p) → s.0 ≡ rule
  one_rule m p s = let e = s.2 in cc

  -- the left side divides what a step starts from
  pub step-divides : (m p : Monomial) → Step rules k m p → within rule.0 m ≡ true
  step-divides m p s =
      let e = ap (λ (r : Rule). r.0) (one_rule m p s) in
      within-yes rule.0 m (λ i.
      let a = ap (λ x. at x i) s.3 in
      let b = ap (λ x. at x i) e in
      omega (arith, at-plus (s.0).0 s.1 i))

  -- a step gives what the rule makes
  pub step-makes : (m p : Monomial) → length p ≡ length m → length rule.1 ≡ length m →
      Step rules k m p → p ≡ made rule m
  step-makes m p wide right_wide s =
      let e = ap (λ (r : Rule). r.0) (one_rule m p s) in
      let f = ap (λ (r : Rule). r.1) (one_rule m p s) in
      same p (made rule m)
      (let a = length-plus rule.1 (minus m rule.0) in
      let b = length-minus m rule.0 in
      omega arith)
      (λ i.
      let a = ap (λ x. at x i) s.3 in
      let b = ap (λ x. at x i) s.4 in
      let g = ap (λ x. at x i) e in
      let h = ap (λ x. at x i) f in
      let x = at-plus (s.0).0 s.1 i in
      let y = at-plus (s.0).1 s.1 i in
      omega (arith, at-plus rule.1 (minus m rule.0) i, at-minus m rule.0 i))

  -- where the left side divides, what the rule makes is a step away
  pub made-step : (m p : Monomial) → length rule.0 ≡ length m → length rule.1 ≡ length m →
      within rule.0 m ≡ true → p ≡ made rule m → Step rules k m p
  made-step m p left_wide right_wide divides e = (
    rule,
    minus m rule.0,
    here,
    same m (plus rule.0 (minus m rule.0))
        (let a = length-plus rule.0 (minus m rule.0) in
        let b = length-minus m rule.0 in
        omega arith)
        (λ i. let a = within-at rule.0 m divides i in
        omega (arith, at-plus rule.0 (minus m rule.0) i, at-minus m rule.0 i)),
    e,
  )
