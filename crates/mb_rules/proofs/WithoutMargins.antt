-- Elimination. For each table the monomial of its margins alone meets the monomial of the table,
-- cell by cell from the starts. So two tables of equal margins meet from one monomial, and by
-- confluence their own monomials meet; what is below a margin-free monomial is margin-free.
use Rattle.std.proofs.Common.{List, Some, [], ap, arith, length, length-append, refl, slice_get, subst, suc, sym, true, zero, ℕ, ◌++◌, ◌+◌, ◌∙◌, ◌∷◌, ◌≡◌}
use Rattle.std.specs.Ordering.{ordering_reverse}
use Rattle.std.specs.declared.cmp.Ordering.{Ordering}
use Rattle.mb_matrix.proofs.FillLaws.{length-margins}
use Rattle.mb_matrix.specs.Fiber.{AreColumns, margins}
use Rattle.mb_order.proofs.MarginFreeLaws.{free-at, free-yes, free-zeros}
use Rattle.mb_order.proofs.WeightLaws.{symbols-length}
use Rattle.mb_order.specs.MarginFree.{Eliminates, margin_free, of_table}
use Rattle.mb_order.specs.Monomial.{Monomial}
use Rattle.mb_order.specs.Order.{IsOrder}
use Rattle.mb_order.specs.Peak.{PairsMeet}
use Rattle.mb_order.specs.Rewriting.{AreValid, Leads, LeadsBy, Meet, Rule}
use Rattle.mb_order.specs.Weight.{symbols}
use Rattle.mb_rules.proofs.Confluence.{leads_then, symbols_confluent}
use Rattle.mb_rules.proofs.LocalConfluence.{leads_plus, meet_same}
use Rattle.mb_rules.specs.Elimination.{FreeLeads, FreeLeadsBy, StartsMeet}
use Rattle.mb_tables.proofs.UnitLaws.{cell-put, length-unit}
use Rattle.mb_tables.proofs.VectorLaws.{at-plus, length-times, length-zeros, plus-append, plus-comm, plus-zeros, times-append, times-more, times-none, times-zeros, zeros-append}
use Rattle.mb_tables.specs.Vectors.{at, plus, times, unit, zeros}

-- meeting is kept by sums
pub meet_sum : (rules : List Rule) (a b p q : Monomial) → Meet rules a b → Meet rules p q →
    Meet rules (plus a p) (plus b q)
meet_sum rules a b p q h k =
    let c = h.0 in
    let r = k.0 in
    let first : (x y : Monomial) → Leads rules x c → Leads rules y r →
    Leads rules (plus x y) (plus c r) =
    λ x y l m. leads_then rules l.0 (plus x y) (plus c y) (plus c r)
    (leads_plus rules l.0 x c y l.1) (
      m.0,
      subst (λ z. LeadsBy rules m.0 z (plus c r)) (plus-comm y c)
          (subst (λ z. LeadsBy rules m.0 (plus y c) z) (plus-comm r c)
          (leads_plus rules m.0 y r c m.1)),
    )
    in
    (plus c r, first a p h.1 k.1, first b q h.2 k.2)

-- and by multiples
meet_times : (rules : List Rule) (n : ℕ) (a b : Monomial) → length a ≡ length b → Meet rules a b →
    Meet rules (times n a) (times n b)
meet_times rules zero a b e h =
    meet_same rules (times 0 a) (times 0 b) (times-none a ∙ ap zeros e ∙ sym (times-none b))
meet_times rules (suc n) a b e h =
    subst (λ x. Meet rules x (times (suc n) b)) (sym (times-more n a))
    (subst (λ x. Meet rules (plus a (times n a)) x) (sym (times-more n b))
    (meet_sum rules a b (times n a) (times n b) h (meet_times rules n a b e h)))

-- the sum over the cells of what the starts say, from cell k on
cells_meet : (d n k : ℕ) (rules : List Rule) (columns : List (List ℕ)) (u : List ℕ) →
    AreColumns d columns → k + length columns ≡ n →
    ((j : ℕ) (c : List ℕ) → slice_get columns j ≡ Some c →
    Meet rules (c ++ zeros n) (zeros d ++ unit n (k + j))) →
    length u ≡ length columns →
    Meet rules (margins d columns u ++ zeros n) (zeros d ++ (zeros k ++ u))
unfolding margins
cells_meet d n k rules [] [] h e starts l =
    meet_same rules (zeros d ++ zeros n) (zeros d ++ (zeros k ++ [])) (let f : n ≡ k =
    omega arith in let g = zeros-append k in cc)
cells_meet d n k rules [] (x ∷ u) h e starts l = absurd (omega arith)
cells_meet d n k rules (c ∷ columns) [] h e starts l = absurd (omega arith)
cells_meet d n k rules (c ∷ columns) (x ∷ u) h e starts l =
    let rest = margins d columns u in
    let put = zeros (suc k) ++ u in
    let ih = cells_meet d n (suc k) rules columns u h.1 (omega arith)
    (λ j c g.
    subst (λ i. Meet rules (c ++ zeros n) (zeros d ++ unit n i)) (let f : k + suc j ≡ suc k + j =
    omega arith in f) (starts (suc j) c g)) (omega arith) in
    let one : Meet rules (c ++ zeros n) (zeros d ++ unit n k) =
    subst (λ i. Meet rules (c ++ zeros n) (zeros d ++ unit n i)) (let f : k + 0 ≡ k = omega arith in
    f) (starts 0 c refl) in
    let high = (h.0).high in
    let wide : length (c ++ zeros n) ≡ length (zeros d ++ unit n k) =
    length-append c (zeros n)
    ∙ (let a = length-zeros n in let b = length-unit n k in let f = length-zeros d in
    let g = length-append (zeros d) (unit n k) in omega arith) in
    let all =
    meet_sum rules (times x (c ++ zeros n)) (times x (zeros d ++ unit n k)) (rest ++ zeros n)
    (zeros d ++ put)
    (meet_times rules x (c ++ zeros n) (zeros d ++ unit n k) wide one) ih in
    let zz : (m : ℕ) → plus (times x (zeros m)) (zeros m) ≡ zeros m =
    λ m. ap (λ z. plus z (zeros m)) (times-zeros x m)
    ∙ plus-zeros m (zeros m) (let a = length-zeros m in omega arith) in
    let left : plus (times x (c ++ zeros n)) (rest ++ zeros n) ≡ plus (times x c) rest ++ zeros n =
    ap (λ y. plus y (rest ++ zeros n)) (times-append x c (zeros n))
    ∙ plus-append (times x c) (times x (zeros n)) rest (zeros n) (let a = length-times x c in
    let b = length-margins d columns u h.1 in omega arith)
    ∙ ap (λ y. plus (times x c) rest ++ y) (zz n) in
    let wide_put : n ≡ k + suc (length u) = omega arith in
    let right : plus (times x (zeros d ++ unit n k)) (zeros d ++ put)
    ≡ zeros d ++ (zeros k ++ (x ∷ u)) =
    ap (λ y. plus y (zeros d ++ put)) (times-append x (zeros d) (unit n k))
    ∙ plus-append (times x (zeros d)) (times x (unit n k)) (zeros d) put (length-times x (zeros d))
    ∙ ap (λ y. y ++ plus (times x (unit n k)) put) (zz d)
    ∙ ap (λ y. zeros d ++ y) (ap (λ m. plus (times x (unit m k)) put) wide_put ∙ cell-put k x u) in
    subst (λ y. Meet rules (plus (times x c) rest ++ zeros n) y) right
    (subst (λ y. Meet rules y (plus (times x (zeros d ++ unit n k)) (zeros d ++ put))) left all)

module _ (d : ℕ) (columns : List (List ℕ)) (compare : Monomial → Monomial →
    Ordering) (rules : List Rule) (fit : AreColumns d columns)
    (order : IsOrder (d + length columns) compare)
    (eliminates : Eliminates d (d + length columns) compare)
    (valid : AreValid d (symbols d columns) compare rules) where
  -- from a margin-free monomial only margin-free rules lead, over margin-free monomials
  free_leads : (trace : List ℕ) (m p : Monomial) → margin_free d m ≡ true →
      LeadsBy rules trace m p → FreeLeadsBy d rules trace m p
  unfolding LeadsBy FreeLeadsBy
  free_leads [] m p free h = (free, h)
  free_leads (k ∷ trace) m p free h =
      let s = h.1 in
      let v = valid k s.0 s.2 in
      let w = symbols-length d columns in
      let zero_at = free-at d m free in
      let left : margin_free d (s.0).0 ≡ true =
      free-yes d (s.0).0 (λ k l. let a = zero_at k l in let b = ap (λ x. at x k) s.3 in
      omega (arith, at-plus (s.0).0 s.1 k)) in
      let right : margin_free d (s.0).1 ≡ true =
      eliminates (s.0).1 (s.0).0 (v.right_wide ∙ w) (v.left_wide
      ∙ w) (order.total.antisymm (s.0).1 (s.0).0 ∙ ap ordering_reverse v.down) left in
      let next : margin_free d h.0 ≡ true =
      free-yes d h.0 (λ k l. let a = zero_at k l in let b = ap (λ x. at x k) s.3 in
      let e = ap (λ x. at x k) s.4 in let f = free-at d (s.0).1 right k l in
      omega (arith, at-plus (s.0).0 s.1 k, at-plus (s.0).1 s.1 k)) in
      (h.0, free, (s, (left, right)), free_leads trace h.0 p next h.2)

  module _ (pairs : PairsMeet rules) (starts : StartsMeet d columns rules) where
    pub start_meet : (u : List ℕ) → length u ≡ length columns →
        Meet rules (margins d columns u ++ zeros (length columns)) (of_table d u)
    unfolding zeros
    start_meet u l =
        cells_meet d (length columns) 0 rules columns u fit (omega arith)
        (λ j c e.
        subst (λ i. Meet rules (c ++ zeros (length columns)) (zeros d ++ unit (length columns) i))
        (let f : j ≡ 0 + j = omega arith in f) (starts j c e)) l

    pub elimination : (u v : List ℕ) → length u ≡ length columns → length v ≡ length columns →
        margins d columns u ≡ margins d columns v →
        (c : Monomial) × FreeLeads d rules (of_table d u) c × FreeLeads d rules (of_table d v) c
    elimination u v lu lv e =
        let all = symbols d columns in
        let wide = symbols-length d columns in
        let confluent = symbols_confluent d columns compare rules fit order valid pairs in
        let top = margins d columns u ++ zeros (length columns) in
        let top_wide : length top ≡ length all =
        length-append (margins d columns u) (zeros (length columns))
        ∙ (let a = length-margins d columns u fit in let b = length-zeros (length columns) in
        omega arith) in
        let first = start_meet u lu in
        let second : Meet rules top (of_table d v) =
        subst (λ b. Meet rules (b ++ zeros (length columns)) (of_table d v)) (sym e)
        (start_meet v lv) in
        let met = confluent top first.0 second.0 top_wide first.1 second.1 in
        let down = leads_then rules (first.2).0 (of_table d u) first.0 met.0 (first.2).1 met.1 in
        let other =
        leads_then rules (second.2).0 (of_table d v) second.0 met.0 (second.2).1 met.2 in (
          met.0,
          (down.0, free_leads down.0 (of_table d u) met.0 (free-zeros d u) down.1),
          (other.0, free_leads other.0 (of_table d v) met.0 (free-zeros d v) other.1),
        )
