-- The monomials of one weight meet, since the monomial in margins' symbols alone meets each.
use Rattle.std.proofs.Common.{List, ap, arith, drop, length, length-append, length-drop, length-take, subst, sym, take, ℕ, ◌++◌, ◌+◌, ◌∙◌, ◌≡◌}
use Rattle.std.proofs.Math.ListN.{take-append-drop}
use Rattle.std.specs.declared.cmp.Ordering.{Ordering}
use Rattle.mb_matrix.proofs.FillLaws.{length-margins}
use Rattle.mb_matrix.specs.Fiber.{AreColumns, margins}
use Rattle.mb_order.proofs.WeightLaws.{symbols-fit, symbols-length, weight}
use Rattle.mb_order.specs.MarginFree.{Eliminates, of_table}
use Rattle.mb_order.specs.Monomial.{Monomial}
use Rattle.mb_order.specs.Order.{IsOrder}
use Rattle.mb_order.specs.Peak.{PairsMeet}
use Rattle.mb_order.specs.Rewriting.{AreValid, Meet, Rule}
use Rattle.mb_order.specs.Weight.{symbols}
use Rattle.mb_rules.proofs.Confluence.{leads_then, symbols_confluent}
use Rattle.mb_rules.proofs.LocalConfluence.{meet_plus}
use Rattle.mb_rules.proofs.WithoutMargins.{start_meet}
use Rattle.mb_rules.specs.Classes.{ClassesMeet}
use Rattle.mb_rules.specs.Elimination.{StartsMeet}
use Rattle.mb_tables.proofs.VectorLaws.{length-zeros, plus-append, plus-comm, plus-zeros}
use Rattle.mb_tables.specs.Vectors.{plus, zeros}

module _ (d : ℕ) (columns : List (List ℕ)) (compare : Monomial → Monomial →
    Ordering) (rules : List Rule) (fit : AreColumns d columns)
    (order : IsOrder (d + length columns) compare)
    (eliminates : Eliminates d (d + length columns) compare)
    (valid : AreValid d (symbols d columns) compare rules) (pairs : PairsMeet rules)
    (starts : StartsMeet d columns rules) where
  -- the monomial in margins' symbols alone that has a given weight
  top : (t x : List ℕ) → length t ≡ d → length x ≡ length columns →
      Meet rules (margins d (symbols d columns) (t ++ x) ++ zeros (length columns)) (t ++ x)
  top t x l w =
      let n = length columns in
      let m = margins d columns x in
      let z = zeros n in
      let all =
      meet_plus rules (m ++ z) (of_table d x) (t ++ z)
      (start_meet d columns compare rules fit order eliminates valid pairs starts x w) in
      let left : plus (m ++ z) (t ++ z) ≡ margins d (symbols d columns) (t ++ x) ++ z =
      plus-append m z t z (length-margins d columns x fit ∙ sym l)
      ∙ ap (λ y. plus m t ++ y) (plus-zeros n z (let a = length-zeros n in omega arith))
      ∙ ap (λ y. y ++ z) (plus-comm m t ∙ sym (weight d columns t x fit l)) in
      let right : plus (zeros d ++ x) (t ++ z) ≡ t ++ x =
      plus-append (zeros d) x t z (length-zeros d ∙ sym l)
      ∙ ap (λ y. y ++ plus x z) (plus-zeros d t (omega arith))
      ∙ ap (λ y. t ++ y) (plus-comm x z ∙ plus-zeros n x (omega arith)) in
      subst (λ y. Meet rules y (t ++ x)) left
      (subst (λ y. Meet rules (plus (m ++ z) (t ++ z)) y) right all)

  -- it meets each monomial of that weight
  top_of : (m : Monomial) → length m ≡ length (symbols d columns) →
      Meet rules (margins d (symbols d columns) m ++ zeros (length columns)) m
  top_of m w =
      let e = take-append-drop d m in
      let wide = symbols-length d columns in
      subst (λ y. Meet rules (margins d (symbols d columns) y ++ zeros (length columns)) y) e
      (top (take d m) (drop d m) (let a = length-take d m in
      omega arith) (let a = length-drop d m in omega arith))

  -- monomials of equal weight meet
  pub classes_meet : ClassesMeet d (symbols d columns) rules
  classes_meet a b w v e =
      let all = symbols d columns in
      let wide = symbols-length d columns in
      let confluent = symbols_confluent d columns compare rules fit order valid pairs in
      let high = margins d all a ++ zeros (length columns) in
      let first = top_of a w in
      let second : Meet rules high b =
      subst (λ y. Meet rules (y ++ zeros (length columns)) b) (sym e) (top_of b v) in
      let high_wide : length high ≡ length all =
      length-append (margins d all a) (zeros (length columns))
      ∙ (let c = length-margins d all a (symbols-fit d columns fit) in
      let z = length-zeros (length columns) in omega arith) in
      let met = confluent high first.0 second.0 high_wide first.1 second.1 in (
        met.0,
        leads_then rules (first.2).0 a first.0 met.0 (first.2).1 met.1,
        leads_then rules
            (second.2).0 b second.0 met.0 (second.2).1 met.2,
      )
