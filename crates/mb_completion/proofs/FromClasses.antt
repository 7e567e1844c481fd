-- Where classes meet, pairs and starts do.
use Rattle.std.proofs.Common.{List, Some, ap, arith, length, length-append, slice_get, sym, ℕ, ◌++◌, ◌∙◌, ◌≡◌, ◌≤◌}
use Rattle.std.specs.declared.cmp.Ordering.{Ordering}
use Rattle.mb_matrix.proofs.FillLaws.{margins-none, margins-plus, margins-unit}
use Rattle.mb_matrix.specs.Fiber.{AreColumns, margins}
use Rattle.mb_order.proofs.WeightLaws.{symbols-length, weight}
use Rattle.mb_order.specs.MarginFree.{of_table}
use Rattle.mb_order.specs.Monomial.{Monomial}
use Rattle.mb_order.specs.Order.{IsOrder}
use Rattle.mb_order.specs.Peak.{PairsMeet, peak}
use Rattle.mb_order.specs.Rewriting.{AreValid, Rule, made}
use Rattle.mb_order.specs.Weight.{symbols}
use Rattle.mb_rules.proofs.LeastOfClass.{least_of}
use Rattle.mb_rules.specs.Classes.{ClassesMeet, ReachLeast}
use Rattle.mb_rules.specs.Elimination.{StartsMeet}
use Rattle.mb_tables.proofs.UnitLaws.{length-unit}
use Rattle.mb_tables.proofs.VectorLaws.{at-greater, at-minus, at-plus, length-greater, length-minus, length-plus, length-zeros, plus-comm, plus-zeros, same}
use Rattle.mb_tables.specs.Vectors.{at, minus, plus, unit, zeros}

-- two monomials of all symbols and of equal weight
abbrev pub AreAlike : ℕ → List (List ℕ) → Monomial → Monomial → Type 0
AreAlike d columns a b =
    (length a ≡ length columns) × (length b ≡ length columns)
    × (margins d columns a ≡ margins d columns b)

-- a cell's symbol is like the margins' symbols of its column
pub cell_alike : (d : ℕ) (columns : List (List ℕ)) (j : ℕ) (c : List ℕ) → AreColumns d columns →
    slice_get columns j ≡ Some c →
    AreAlike d (symbols d columns) (c ++ zeros (length columns))
    (of_table d (unit (length columns) j))
cell_alike d columns j c fit e =
    let n = length columns in
    let r = margins-unit d columns j c fit e in
    let wide = symbols-length d columns in
    let left = weight d columns c (zeros n) fit r.1 in
    let right = weight d columns (zeros d) (unit n j) fit (length-zeros d) in
    let left_is : plus c (margins d columns (zeros n)) ≡ c =
    ap (plus c) (margins-none d columns n fit) ∙ plus-comm c (zeros d)
    ∙ plus-zeros d c (let a = r.1 in omega arith) in
    let right_is : plus (zeros d) (margins d columns (unit n j)) ≡ c = ap (plus (zeros d)) r.0
    ∙ plus-zeros d c (let a = r.1 in omega arith) in (
      length-append c (zeros n) ∙ (let a = r.1 in let b = length-zeros n in omega arith),
      length-append (zeros d) (unit n j)
          ∙ (let a = length-zeros d in let b = length-unit n j in omega arith),
      left ∙ left_is ∙ sym (right ∙ right_is),
    )

-- the starts meet
pub starts_meet : (d : ℕ) (columns : List (List ℕ)) (rules : List Rule) → AreColumns d columns →
    ClassesMeet d (symbols d columns) rules → StartsMeet d columns rules
starts_meet d columns rules fit meet j c e =
    let a = cell_alike d columns j c fit e in
    meet (c ++ zeros (length columns)) (of_table d (unit (length columns) j)) a.0 a.1 a.2

-- what a rule makes of a monomial that its left side divides has its weight
pub made-weight : (d : ℕ) (columns : List (List ℕ)) (rule : Rule) (m : Monomial) →
    AreColumns d columns → length rule.0 ≡ length columns → length m ≡ length columns →
    margins d columns rule.0 ≡ margins d columns rule.1 →
    ((k : ℕ) → at rule.0 k ≤ at m k) → margins d columns (made rule m) ≡ margins d columns m
made-weight d columns rule m fit w v e below =
    let rest = minus m rule.0 in
    let f : plus rule.0 rest ≡ m =
    same (plus rule.0 rest) m (let a = length-plus rule.0 rest in let b = length-minus m rule.0 in
    omega arith)
    (λ k. let a = below k in omega (arith, at-plus rule.0 rest k, at-minus m rule.0 k)) in
    margins-plus d columns rule.1 rest fit ∙ ap (λ x. plus x (margins d columns rest)) (sym e)
    ∙ sym (margins-plus d columns rule.0 rest fit) ∙ ap (margins d columns) f

-- what two rules make of their peak is alike
pub sides_alike : (d : ℕ) (columns : List (List ℕ)) (compare : Monomial → Monomial →
    Ordering) (rules : List Rule) → AreColumns d columns → AreValid d columns compare rules →
    (i j : ℕ) (low high : Rule) → slice_get rules i ≡ Some low → slice_get rules j ≡ Some high →
    AreAlike d columns (made low (peak low high)) (made high (peak low high))
sides_alike d columns compare rules fit valid i j low high e f =
    let v = valid i low e in
    let w = valid j high f in
    let top = peak low high in
    let a = v.left_wide in let b = v.right_wide in let c = w.left_wide in let g = w.right_wide in
    let top_wide : length top ≡ length columns = omega (arith, length-greater low.0 high.0) in
    let made_wide : (rule : Rule) → length rule.1 ≡ length columns →
    length (made rule top) ≡ length columns =
    λ rule z. length-plus rule.1 (minus top rule.0)
    ∙ (let y = length-minus top rule.0 in omega arith) in (
      made_wide low b,
      made_wide high g,
      made-weight d columns low top fit a top_wide v.equal_weight
          (λ k. omega (arith, at-greater low.0 high.0 k))
          ∙ sym (made-weight d columns high top fit c top_wide w.equal_weight
          (λ k. omega (arith, at-greater low.0 high.0 k))),
    )

-- the pairs meet
pub pairs_meet : (d : ℕ) (columns : List (List ℕ)) (compare : Monomial → Monomial →
    Ordering) (rules : List Rule) → AreColumns d columns → AreValid d columns compare rules →
    ClassesMeet d columns rules → PairsMeet rules
pairs_meet d columns compare rules fit valid meet i j low high l e f s =
    let a = sides_alike d columns compare rules fit valid i j low high e f in
    meet (made low (peak low high)) (made high (peak low high)) a.0 a.1 a.2

-- where each leads to the least, classes meet
pub classes_from_reach : (d : ℕ) (columns : List (List ℕ)) (compare : Monomial → Monomial →
    Ordering) (rules : List Rule) → AreColumns d columns → IsOrder (length columns) compare →
    ReachLeast d columns compare rules → ClassesMeet d columns rules
classes_from_reach d columns compare rules fit order reach a b w v e =
    let p = least_of d columns compare fit order a w in
    (p.0, reach a p.0 w p.1 p.2 p.3, reach b p.0 v p.1 (p.2 ∙ e) p.3)
