-- A run has one end, since each look has one pair of normal forms.
use Rattle.std.proofs.Common.{List, None, Some, ap, inl, inr, slice_get, subst, suc, sym, zero, ℕ, ◌++◌, ◌∙◌, ◌≡◌, ◌⊎◌}
use Rattle.std.specs.Ordering.{ordering_reverse}
use Rattle.std.specs.declared.cmp.Ordering.TheVariants.{Equal, Greater, Less}
use Rattle.std.specs.declared.cmp.Ordering.{Ordering}
use Rattle.mb_completion.proofs.Looks.{fit, look_valid, ordered, same_pair, same_rule}
use Rattle.mb_completion.specs.Run.{Adds, IsLook, Outcome, Runs, TooHeavy, Unfinished}
use Rattle.mb_matrix.specs.Matrix.{Design, IsDesign}
use Rattle.mb_order.specs.Monomial.{Monomial}
use Rattle.mb_order.specs.Peak.{shared_pairs}
use Rattle.mb_order.specs.Rewriting.{Rule, made}
use Rattle.mb_order.specs.Weight.{IsLight, symbols_of}
use Rattle.mb_order.specs.declared.order.Order.{Order}
use Rattle.mb_rules.proofs.NormalForms.{one_normal}
use Rattle.mb_rules.specs.RuleList.{ValidRules, cmp_of}
use Rattle.mb_tables.specs.Vectors.{greater}

module _ (matrix : Design) (order : Order) (are : IsDesign matrix) where
  -- greater is not less
  Greater-not_Less : Greater ≡ Less → ⊥
  Greater-not_Less e = cc

  -- what is greater does not tie
  Greater-not_self : (o : Ordering) → o ≡ Greater → o ≡ ordering_reverse o → ⊥
  Greater-not_self Less e f = cc
  Greater-not_self Equal e f = cc
  Greater-not_self Greater e f = cc

  -- equal monomials do not compare as greater
  never_same : (p q : Monomial) → p ≡ q → cmp_of order matrix p q ≡ Greater → ⊥
  never_same p q e f =
      let g : cmp_of order matrix q q ≡ Greater = ap (λ x. cmp_of order matrix x q) (sym e) ∙ f in
      Greater-not_self (cmp_of order matrix q q) g ((ordered matrix order are).total.antisymm q q)

  -- of two monomials only one is the greater
  never_both : (p q : Monomial) → cmp_of order matrix p q ≡ Greater →
      cmp_of order matrix q p ≡ Greater → ⊥
  never_both p q f g =
      Greater-not_Less (sym f ∙ (ordered matrix order are).total.antisymm p q
      ∙ ap ordering_reverse g)

  -- two normal forms add one list
  one_added : (p q : Monomial) (m n : List Rule) → Adds (cmp_of order matrix) p q m →
      Adds (cmp_of order matrix) p q n → m ≡ n
  one_added p q m n (inl a) (inl b) = a.1 ∙ sym b.1
  one_added p q m n (inl a) (inr (inl b)) = absurd (never_same p q a.0 b.0)
  one_added p q m n (inl a) (inr (inr b)) = absurd (never_same q p (sym a.0) b.0)
  one_added p q m n (inr (inl a)) (inl b) = absurd (never_same p q b.0 a.0)
  one_added p q m n (inr (inr a)) (inl b) = absurd (never_same q p (sym b.0) a.0)
  one_added p q m n (inr (inl a)) (inr (inl b)) = a.1 ∙ sym b.1
  one_added p q m n (inr (inr a)) (inr (inr b)) = a.1 ∙ sym b.1
  one_added p q m n (inr (inl a)) (inr (inr b)) = absurd (never_both p q a.0 b.0)
  one_added p q m n (inr (inr a)) (inr (inl b)) = absurd (never_both p q b.0 a.0)

  -- a look adds one list
  one_look : (rules : List Rule) (low high : Rule) (m n : List Rule) →
      ValidRules order matrix rules → IsLook matrix order rules low high m →
      IsLook matrix order rules low high n → m ≡ n
  one_look rules low high m n valid x y =
      let peak = greater low.0 high.0 in
      let e = one_normal matrix.rows (symbols_of matrix)
      (cmp_of order matrix) rules (fit matrix order are)
      (ordered matrix order are) valid x.low_trace y.low_trace
      (made low peak) x.low_form y.low_form x.low_normal y.low_normal in
      let f = one_normal matrix.rows (symbols_of matrix)
      (cmp_of order matrix) rules (fit matrix order are)
      (ordered matrix order are) valid x.high_trace y.high_trace
      (made high peak) x.high_form y.high_form x.high_normal y.high_normal in
      one_added x.low_form x.high_form m n x.adds
      (subst (λ q. Adds (cmp_of order matrix) x.low_form q n) (sym f.1)
      (subst (λ p. Adds (cmp_of order matrix) p y.high_form n) (sym e.1) y.adds))

  -- what is past the end is not there
  none_some : (o : ℕ × ℕ) (x : List (ℕ × ℕ)) (k : ℕ) → slice_get x k ≡ None →
      slice_get x k ≡ Some o → ⊥
  none_some o x k e f = cc

  -- what follows the look at one pair
  abbrev After : ℕ → List Rule → ℕ → Outcome → ℕ → ℕ → Rule → Rule → Type 0
  After budget rules looks end i j low high =
      ((IsLight matrix (greater low.0 high.0) → ⊥) × (end ≡ TooHeavy i j))
      ⊎ ((more : List Rule) × IsLook matrix order rules low high more
      × Runs matrix order budget (rules ++ more) (suc looks) end)

  -- a run from these rules and looks has one end
  pub one_outcome : (budget : ℕ) (rules : List Rule) (looks : ℕ) (a b : Outcome) →
      ValidRules order matrix rules → Runs matrix order budget rules looks a →
      Runs matrix order budget rules looks b → a ≡ b
  unfolding Runs
  one_outcome zero rules looks a b valid (inl x) (inl y) = x.1 ∙ sym y.1
  one_outcome zero rules looks a b valid (inl x) (inr (i, j, e, f)) =
      absurd (none_some (i, j) (shared_pairs rules) looks x.0 e)
  one_outcome zero rules looks a b valid (inr (i, j, e, f)) (inl x) =
      absurd (none_some (i, j) (shared_pairs rules) looks x.0 e)
  one_outcome zero rules looks a b valid (inr (i, j, e, f)) (inr (k, l, g, h)) =
      let t = same_pair i j k l (sym e ∙ g) in
      f ∙ ap (λ n. Unfinished looks n j) t.0 ∙ ap (λ n. Unfinished looks k n) t.1 ∙ sym h
  one_outcome (suc budget) rules looks a b valid (inl x) (inl y) = x.1 ∙ sym y.1
  one_outcome (suc budget) rules looks a b valid (inl x) (inr (i, j, low, high, e, f, g, r)) =
      absurd (none_some (i, j) (shared_pairs rules) looks x.0 e)
  one_outcome (suc budget) rules looks a b valid (inr (i, j, low, high, e, f, g, r)) (inl x) =
      absurd (none_some (i, j) (shared_pairs rules) looks x.0 e)
  one_outcome (suc budget) rules looks a b valid (inr (i, j, low, high, e, f, g, r))
      (inr (k, l, less, more, e2, f2, g2, r2)) =
      let t = same_pair i j k l (sym e ∙ e2) in
      let y = same_rule rules i k low less t.0 f f2 in
      let z = same_rule rules j l high more t.1 g g2 in
      let s : After budget rules looks b i j low high =
      subst (λ n. After budget rules looks b n j low high) (sym t.0)
      (subst (λ n. After budget rules looks b k n low high) (sym t.1)
      (subst (λ n. After budget rules looks b k l n high) (sym y)
      (subst (λ n. After budget rules looks b k l less n) (sym z) r2))) in
      elim r [
        | inl x ↦
            elim s [ inl w ↦ x.1 ∙ sym w.1 | inr w ↦ (let look = w.1 in absurd (x.0 look.light)) ]
        | inr x ↦ elim s [
          | inl w ↦ (let look = x.1 in absurd (w.0 look.light))
          | inr w ↦ (
              let same = one_look rules low high x.0 w.0 valid x.1 w.1 in
              one_outcome budget (rules ++ x.0) (suc looks) a b
              (look_valid matrix order are rules i j low high x.0 valid f g x.1) x.2
              (subst (λ m. Runs matrix order budget (rules ++ m) (suc looks) b) (sym same) w.2))
        ]
      ]
