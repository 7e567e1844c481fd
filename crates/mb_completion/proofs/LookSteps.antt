-- One look at a pair, as the code makes it.
use Rattle.std.proofs.Common.{Err, List, Ok, Result, [], ap, append-nil, arith, inl, refl, sym, true, ℕ, ◌++◌, ◌∙◌, ◌∷◌, ◌≡◌}
use Rattle.std.specs.Ordering.{ordering_reverse}
use Rattle.std.specs.Result.{IfOk, OnOk}
use Rattle.std.specs.declared.cmp.Ordering.{Ordering}
use Rattle.std.specs.declared.cmp.Ordering.TheVariants.{Equal, Greater, Less}
use Rattle.mb_completion.specs.Run.{Adds}
use Rattle.mb_completion.specs.loops.Looking.{IsBorn}
use Rattle.mb_matrix.specs.Matrix.{Design}
use Rattle.mb_order.proofs.PeakLaws.{peak-suits}
use Rattle.mb_order.specs.Monomial.{Exponents, Monomial}
use Rattle.mb_order.specs.Order.{monomial_cmp}
use Rattle.mb_order.specs.Rewriting.{IsValid, Rule}
use Rattle.mb_order.specs.Weight.{Suits, symbols_of, weights}
use Rattle.mb_order.specs.declared.order.Order.{Order}
use Rattle.mb_rules.proofs.RulesInCode.{order, wide}
use Rattle.mb_rules.specs.RuleList.{AreRules, RuleList, cmp_of}
use Rattle.mb_tables.proofs.VectorLaws.{at-greater, within-yes}
use Rattle.mb_tables.specs.Vectors.{at, greater, within}

-- both left sides divide the peak
pub left_divides : (a b m : List ℕ) → m ≡ greater a b → within a m ≡ true
left_divides a b m e =
    within-yes a m (λ k. let f = ap (λ u. at u k) e in omega (arith, at-greater a b k))

-- the right one's left side divides the peak
pub right_divides : (a b m : List ℕ) → m ≡ greater a b → within b m ≡ true
right_divides a b m e =
    within-yes b m (λ k. let f = ap (λ u. at u k) e in omega (arith, at-greater a b k))

-- a new rule is valid
pub born_valid : (list : RuleList) (are : AreRules list) (p q : Exponents) → Suits list.matrix p →
    Suits list.matrix q →
    weights list.matrix p.list ≡ weights list.matrix q.list →
    cmp_of list.order list.matrix p.list q.list ≡ Greater →
    IsValid list.matrix.rows (symbols_of list.matrix) (cmp_of list.order list.matrix)
    (p.list, q.list)
born_valid list are p q f g e h = record {
  left_wide = f.symbols ∙ sym (wide list are);
  right_wide = g.symbols ∙ sym (wide list are);
  equal_weight = e;
  down = h;
}

-- what is less is greater the other way round
pub turned : (list : RuleList) (are : AreRules list) (p q : Monomial) →
    cmp_of list.order list.matrix p q ≡ Less → cmp_of list.order list.matrix q p ≡ Greater
turned list are p q e = let o = order list are in o.total.antisymm q p ∙ ap ordering_reverse e

-- what ties is equal
pub equal_same : (list : RuleList) (are : AreRules list) (p q : Exponents) → Suits list.matrix p →
    Suits list.matrix q → cmp_of list.order list.matrix p.list q.list ≡ Equal → p.list ≡ q.list
equal_same list are p q f g e = let o = order list are in
    o.definite p.list q.list (f.symbols ∙ sym (wide list are)) (g.symbols ∙ sym (wide list are)) e

-- the least common multiple has the matrix's shape
pub lcm_suits : {E : Type 0} (matrix : Design) (a b : Exponents) (r : Result Exponents E) →
    Suits matrix a → Suits matrix b →
    IfOk r (λ m. m.margins ≡ a.margins) → IfOk r (λ m. m.list ≡ greater a.list b.list) →
    IfOk r (λ m. Suits matrix m)
lcm_suits matrix a b (Ok m) f g e h = peak-suits matrix a b m f g e h
lcm_suits matrix a b (Err x) f g e h = tt

-- what adding gives, by how the two compare
pub born_none : (list : RuleList) (are : AreRules list) (p q : Exponents) → Suits list.matrix p →
    Suits list.matrix q → cmp_of list.order list.matrix p.list q.list ≡ Equal →
    IsBorn (cmp_of list.order list.matrix) p.list q.list list.rules list.rules
born_none list are p q f g e =
    ([], inl (equal_same list are p q f g e, refl), sym (append-nil list.rules))

-- how two monomials compare by the order of a list
pub compared : (list : RuleList) (o : Order) (p q : Exponents) (r s : Ordering) → o ≡ list.order →
    Suits list.matrix p → r ≡ monomial_cmp o p.margins p.list q.list → r ≡ s →
    cmp_of list.order list.matrix p.list q.list ≡ s
compared list o p q r s e f g h =
    ap (λ (x : Order). monomial_cmp x list.matrix.rows p.list q.list) (sym e)
    ∙ ap (λ d. monomial_cmp o d p.list q.list) (sym f.margins) ∙ sym g ∙ h

-- a rule that is pushed is born
pub born_pushed : {E : Type 0} (list : RuleList) (p q : Monomial) (rule : Rule)
    (r : Result (Unit {0}) E) (new : RuleList) →
    OnOk r (new ≡ record {
      matrix = list.matrix;
      order = list.order;
      rules = list.rules ++ (rule ∷ []);
    }) →
    Adds (cmp_of list.order list.matrix) p q (rule ∷ []) →
    OnOk r (IsBorn (cmp_of list.order list.matrix) p q list.rules new.rules)
born_pushed list p q rule (Ok x) new e a = (rule ∷ [], a, ap (λ (l : RuleList). l.rules) e)
born_pushed list p q rule (Err x) new e a = tt
