-- What a look does: its normal forms are of equal weight, the rules with what it adds are valid,
-- and
-- by these the two sides of its pair meet.
use Rattle.std.proofs.Common.{List, Some, [], ap, append-nil, append_assoc, arith, inl, inr, length, slice_get, subst, suc, sym, zero, ℕ, ◌++◌, ◌<◌, ◌∙◌, ◌∷◌, ◌≡◌, ◌≤◌, ◌⊎◌}
use Rattle.std.specs.declared.cmp.Ordering.{Ordering}
use Rattle.mb_completion.proofs.FromClasses.{made-weight}
use Rattle.mb_completion.proofs.GrowingRules.{meet_more, new_rule_meets}
use Rattle.mb_completion.proofs.Reducing.{leads-same}
use Rattle.mb_completion.specs.Run.{IsLook}
use Rattle.mb_matrix.specs.Matrix.{Design, IsDesign}
use Rattle.mb_order.specs.Weight.{symbols_of, weights}
use Rattle.mb_order.specs.declared.order.Order.{Order}
use Rattle.mb_rules.specs.RuleList.{ValidRules, cmp_of}
use Rattle.mb_order.proofs.OrderLaws.{is_order}
use Rattle.mb_order.proofs.WeightLaws.{symbols-fit}
use Rattle.mb_matrix.specs.Fiber.{AreColumns}
use Rattle.mb_order.proofs.PeakLaws.{shared_pairs-push}
use Rattle.mb_order.specs.Monomial.{Monomial}
use Rattle.mb_order.specs.Order.{IsOrder}
use Rattle.mb_order.specs.Peak.{peak, shared_pairs}
use Rattle.mb_order.specs.Rewriting.{AreValid, IsValid, LeadsBy, Meet, Rule, made}
use Rattle.mb_rules.proofs.NormalForms.{normal-leads}
use Rattle.mb_tables.proofs.ListLaws.{get-front}
use Rattle.mb_tables.proofs.VectorLaws.{at-greater, length-greater, length-minus, length-plus}
use Rattle.mb_tables.specs.Vectors.{minus}

-- pairs that are there are told apart
some_pair : (p q : ℕ × ℕ) → Some p ≡ Some q → p ≡ q
some_pair p q e = cc

-- equal pairs have equal parts
pub same_pair : (i j k l : ℕ) →
    (let p : ℕ × ℕ = (i, j) in Some p) ≡ (let p : ℕ × ℕ = (k, l) in Some p) → (i ≡ k) × (j ≡ l)
same_pair i j k l e = let p : ℕ × ℕ = (i, j) in let q : ℕ × ℕ = (k, l) in let f = some_pair p q e in
    (ap (λ (p : ℕ × ℕ). p.0) f, ap (λ (p : ℕ × ℕ). p.1) f)

-- there is one rule of a number
pub same_rule : (rules : List Rule) (i k : ℕ) (p q : Rule) → i ≡ k → slice_get rules i ≡ Some p →
    slice_get rules k ≡ Some q → p ≡ q
same_rule rules i k p q e f g = cc

-- past the others stands the rule put last
last-only : (rules : List Rule) (rule : Rule) (k : ℕ) (r : Rule) → length rules ≤ k →
    slice_get (rules ++ (rule ∷ [])) k ≡ Some r → rule ≡ r
last-only [] rule zero r l e = cc
last-only [] rule (suc k) r l e = cc
last-only (x ∷ rules) rule zero r l e = absurd (omega arith)
last-only (x ∷ rules) rule (suc k) r l e = last-only rules rule k r (omega arith) e

-- one valid rule more leaves the rules valid
pub valid_push : (d : ℕ) (columns : List (List ℕ)) (compare : Monomial → Monomial →
    Ordering) (rules : List Rule) (rule : Rule) → AreValid d columns compare rules →
    IsValid d columns compare rule → AreValid d columns compare (rules ++ (rule ∷ []))
valid_push d columns compare rules rule h v k r e =
    let cases : (k < length rules) ⊎ (length rules ≤ k) = grind arith in
    elim cases [
      | inl l ↦ h k r (sym (get-front rules (rule ∷ []) k l) ∙ e)
      | inr l ↦ subst (IsValid d columns compare) (last-only rules rule k r l e) v
    ]

-- the pairs of more rules begin with the pairs of these
pub shared_pairs-more : (rules more : List Rule) → (rest : List (ℕ × ℕ))
    × (shared_pairs (rules ++ more) ≡ shared_pairs rules ++ rest)
shared_pairs-more rules [] =
    ([], ap shared_pairs (append-nil rules) ∙ sym (append-nil (shared_pairs rules)))
shared_pairs-more rules (x ∷ more) =
    let first = shared_pairs-push rules x in
    let rest = shared_pairs-more (rules ++ (x ∷ [])) more in (
      first.0 ++ rest.0,
      ap shared_pairs (sym (append_assoc rules (x ∷ []) more)) ∙ rest.1
          ∙ ap (λ l. l ++ rest.0) first.1 ∙ append_assoc (shared_pairs rules) first.0 rest.0,
    )

module _ (matrix : Design) (order : Order) (are : IsDesign matrix) where
  -- the columns of all symbols are columns
  pub fit : AreColumns matrix.rows (symbols_of matrix)
  fit = symbols-fit matrix.rows matrix.columns are.each

  -- the order is a monomial order
  pub ordered : IsOrder (length (symbols_of matrix)) (cmp_of order matrix)
  ordered = is_order order matrix.rows (length (symbols_of matrix))

  -- the two normal forms of a look: the sides lead to them, they are as wide, of equal weight
  pub look_ends : (rules : List Rule) (i j : ℕ) (low high : Rule) (more : List Rule) →
      ValidRules order matrix rules → slice_get rules i ≡ Some low →
      slice_get rules j ≡ Some high → (look : IsLook matrix order rules low high more) →
      LeadsBy rules look.low_trace (made low (peak low high)) look.low_form
      × LeadsBy rules look.high_trace (made high (peak low high)) look.high_form
      × (length look.low_form ≡ length (symbols_of matrix))
      × (length look.high_form ≡ length (symbols_of matrix))
      × (weights matrix look.low_form ≡ weights matrix look.high_form)
  look_ends rules i j low high more valid f g look =
      let d = matrix.rows in
      let columns = symbols_of matrix in
      let compare = cmp_of order matrix in
      let top = peak low high in
      let v = valid i low f in
      let w = valid j high g in
      let lw = v.left_wide in
      let hw = w.left_wide in
      let top_wide : length top ≡ length columns = omega (arith, length-greater low.0 high.0) in
      let made_wide : (rule : Rule) → length rule.1 ≡ length columns →
      length (made rule top) ≡ length columns =
      λ rule z. length-plus rule.1 (minus top rule.0)
      ∙ (let y = length-minus top rule.0 in omega arith) in
      let p = look.low_form in
      let q = look.high_form in
      let first =
      (normal-leads d columns compare rules fit ordered valid look.low_trace (made low top) p
      look.low_normal).0 in
      let second =
      (normal-leads d columns compare rules fit ordered valid look.high_trace (made high top) q
      look.high_normal).0 in
      let ps = leads-same d columns compare fit ordered rules valid look.low_trace (made low top) p
      (made_wide low v.right_wide) first in
      let qs =
      leads-same d columns compare fit ordered rules valid look.high_trace (made high top) q
      (made_wide high w.right_wide) second in
      let low_weight = made-weight d columns low top fit lw top_wide v.equal_weight
      (λ k. omega (arith, at-greater low.0 high.0 k)) in
      let high_weight = made-weight d columns high top fit hw top_wide w.equal_weight
      (λ k. omega (arith, at-greater low.0 high.0 k)) in
      (first, second, ps.0, qs.0, sym ps.1 ∙ low_weight ∙ sym high_weight ∙ qs.1)

  -- a look leaves the rules valid
  pub look_valid : (rules : List Rule) (i j : ℕ) (low high : Rule) (more : List Rule) →
      ValidRules order matrix rules → slice_get rules i ≡ Some low → slice_get rules j ≡ Some high →
      IsLook matrix order rules low high more → ValidRules order matrix (rules ++ more)
  look_valid rules i j low high more valid f g look =
      let d = matrix.rows in
      let columns = symbols_of matrix in
      let compare = cmp_of order matrix in
      let p = look.low_form in
      let q = look.high_form in
      let ends = look_ends rules i j low high more valid f g look in
      elim look.adds [
        | inl x ↦
            subst (ValidRules order matrix)
            (sym (append-nil rules) ∙ ap (λ l. rules ++ l) (sym x.1)) valid
        | inr y ↦ elim y [
          | inl x ↦
              let rule : Rule = (p, q) in
              subst (λ l. ValidRules order matrix (rules ++ l)) (sym x.1)
              (valid_push d columns compare rules rule valid (record {
                left_wide = ends.2;
                right_wide = ends.3;
                equal_weight = ends.4;
                down = x.0;
              }))
          | inr x ↦
              let rule : Rule = (q, p) in
              subst (λ l. ValidRules order matrix (rules ++ l)) (sym x.1)
              (valid_push d columns compare rules rule valid (record {
                left_wide = ends.3;
                right_wide = ends.2;
                equal_weight = sym ends.4;
                down = x.0;
              }))
        ]
      ]

  -- by the rules with what it adds the sides of its pair meet
  pub look_meets : (rules : List Rule) (i j : ℕ) (low high : Rule) (more : List Rule) →
      ValidRules order matrix rules → slice_get rules i ≡ Some low →
      slice_get rules j ≡ Some high → IsLook matrix order rules low high more →
      Meet (rules ++ more) (made low (peak low high)) (made high (peak low high))
  look_meets rules i j low high more valid f g look =
      let p = look.low_form in
      let q = look.high_form in
      let a = made low (peak low high) in
      let b = made high (peak low high) in
      let ends = look_ends rules i j low high more valid f g look in
      elim look.adds [
        | inl same ↦
            let met : Meet rules a b = (
              q,
              (look.low_trace, subst (λ x. LeadsBy rules look.low_trace a x) same.0 ends.0),
              (look.high_trace, ends.1),
            ) in
            meet_more rules more a b met
        | inr other ↦ elim other [
          | inl down ↦
              subst (λ l. Meet (rules ++ l) a b) (sym down.1)
              (new_rule_meets rules a b p q (look.low_trace, ends.0) (look.high_trace, ends.1))
          | inr down ↦
              let met =
              new_rule_meets rules b a q p (look.high_trace, ends.1) (look.low_trace, ends.0) in
              subst (λ l. Meet (rules ++ l) a b) (sym down.1) (met.0, met.2, met.1)
        ]
      ]
