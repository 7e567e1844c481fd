-- A step by a rule of equal weights keeps a monomial light.
use Rattle.std.proofs.Common.{Bool, List, Some, ap, arith, false, length, slice_get, sym, true, ℕ, ◌+◌, ◌∙◌, ◌≡◌, ◌≤◌}
use Rattle.std.specs.Bool.{OnFalse, OnTrue}
use Rattle.mb_certificate.specs.Valid.{AreRules}
use Rattle.mb_matrix.proofs.FillLaws.{margins-plus}
use Rattle.mb_matrix.specs.Fiber.{AreColumns}
use Rattle.mb_matrix.specs.Matrix.{Design, IsDesign}
use Rattle.mb_order.proofs.CellWeights.{light-exponents}
use Rattle.mb_order.proofs.WeightLaws.{symbols-fit, symbols-length}
use Rattle.mb_order.specs.Limits.{largest_exponent}
use Rattle.mb_order.specs.Monomial.{Exponents, Monomial}
use Rattle.mb_order.specs.Rewriting.{Rule, made}
use Rattle.mb_order.specs.Weight.{IsLight, symbols_of, weights}
use Rattle.mb_order.specs.declared.order.Order.{Order}
use Rattle.mb_tables.proofs.VectorLaws.{at-minus, at-plus, length-minus, length-plus, same, within-at}
use Rattle.mb_tables.specs.Vectors.{at, minus, plus, within}

module _ (matrix : Design) (order : Order) (rules : List Rule) (design : IsDesign matrix)
    (valid : AreRules matrix order rules) (k : ℕ) (rule : Rule) (m : Monomial)
    (e : slice_get rules k ≡ Some rule)
    (w : length m ≡ matrix.rows + length matrix.columns) where
  -- the columns of all symbols are columns
  fit : AreColumns matrix.rows (symbols_of matrix)
  fit = symbols-fit matrix.rows matrix.columns design.each

  -- what the rule makes of a monomial that its left side divides has its weight
  pub made-weight : within rule.0 m ≡ true → weights matrix (made rule m) ≡ weights matrix m
  made-weight f =
      let v = valid k rule e in
      let d = matrix.rows in
      let all = symbols_of matrix in
      let rest = minus m rule.0 in
      let wide = symbols-length d matrix.columns in
      let left = v.left_wide in
      let whole : plus rule.0 rest ≡ m =
      same (plus rule.0 rest) m
      (let a = length-plus rule.0 rest in let b = length-minus m rule.0 in omega arith)
      (λ i. let a = within-at rule.0 m f i in
      omega (arith, at-plus rule.0 rest i, at-minus m rule.0 i)) in
      margins-plus d all rule.1 rest fit
      ∙ ap (λ x. plus x (weights matrix rest)) (sym v.equal_weight)
      ∙ sym (margins-plus d all rule.0 rest fit) ∙ ap (weights matrix) whole

  -- so it is as light
  made-light : within rule.0 m ≡ true → IsLight matrix m → IsLight matrix (made rule m)
  made-light f light i =
      let a = ap (λ u. at u i) (made-weight f) in let b = light i in omega arith

  -- and its exponents are small
  pub made-small : IsLight matrix m → within rule.0 m ≡ true → (i : ℕ) →
      at (made rule m) i ≤ largest_exponent
  made-small light f =
      let v = valid k rule e in
      let wide = symbols-length matrix.rows matrix.columns in
      let right = v.right_wide in
      light-exponents matrix.rows (symbols_of matrix) (made rule m) 65535 fit
      (let a = length-plus rule.1 (minus m rule.0) in let b = length-minus m rule.0 in omega arith)
      (made-light f light)

  -- the monomial is light after a step, and where there is none
  pub kept-light : (b : Bool) (x y : Exponents) → y.list ≡ m → b ≡ within rule.0 m →
      OnTrue b (x.list ≡ made rule m) → OnFalse b (x ≡ y) → IsLight matrix m →
      IsLight matrix x.list
  kept-light true x y s f g h light i =
      let a = made-light (sym f) light i in
      let c = ap (λ u. at (weights matrix u) i) g in
      omega arith
  kept-light false x y s f g h light i =
      let a = light i in
      let c = ap (λ (z : Exponents). at (weights matrix z.list) i) h in
      let d = ap (λ u. at (weights matrix u) i) s in
      omega arith
