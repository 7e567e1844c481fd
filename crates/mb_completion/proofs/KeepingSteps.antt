-- The reduction, rule by rule.
use Rattle.std.proofs.Common.{Err, List, Ok, Result, Some, [], ap, arith, inl, inr, length, map, subst, sym, ℕ, ◌+◌, ◌<◌, ◌∙◌, ◌≡◌, ◌≤◌, ◌⊎◌}
use Rattle.std.specs.Result.{IfOk, OnOk}
use Rattle.mb_completion.proofs.Putting.{put-ascends, put-has, put-old, put-only}
use Rattle.mb_completion.specs.loops.Keeping.{IsKeeping}
use Rattle.mb_completion.specs.loops.Kept.{IsKept, put}
use Rattle.mb_order.proofs.PeakLaws.{left-is}
use Rattle.mb_order.specs.Order.{monomial_cmp}
use Rattle.mb_order.specs.Peak.{left_of}
use Rattle.mb_order.specs.Rewriting.{Rule}
use Rattle.mb_order.specs.Weight.{symbols_of}
use Rattle.mb_order.specs.declared.order.Order.{Order}
use Rattle.mb_rules.proofs.RulesInCode.{order}
use Rattle.mb_rules.specs.ReducedBasis.{IsMinimalLeft, IsReduction, LeftsAscend}
use Rattle.mb_rules.specs.RuleList.{AreRules, RuleList, cmp_of}
use Rattle.mb_rules.specs.Sides.{RuleSuits, sides}
use Rattle.mb_rules.specs.declared.rule.Rule as code
use Rattle.mb_tables.proofs.ListLaws.{In-place, place-in, place-within}
use Rattle.mb_tables.specs.Lists.{In}

module _ (list : RuleList) (are : AreRules list) where
  -- the left side of a kept rule has all symbols
  left_long : (r : Rule) → IsKept list.rules r → length r.0 ≡ length (symbols_of list.matrix)
  left_long r h =
      let m = h.minimal in
      let rule : Rule = (r.0, (m.0).1) in
      let v = are.valid (m.0).0 rule (m.0).2 in
      v.left_wide

  -- nothing is kept at the start
  pub keeps_none : IsKeeping list.matrix list.order list.rules 0 []
  unfolding LeftsAscend In
  keeps_none =
      record {
        ascends = tt;
        each = λ r i. absurd i;
        all = λ i h m. absurd (omega arith);
        shapes = λ r i. absurd i;
        few = omega arith;
      }

  -- a rule whose left side is not minimal is passed
  pub keeps_passed : (k : ℕ) (items : List code.Rule) →
      IsKeeping list.matrix list.order list.rules k items →
      (IsMinimalLeft list.rules (left_of list.rules k) → ⊥) →
      IsKeeping list.matrix list.order list.rules (k + 1) items
  keeps_passed k items h not = record {
    ascends = h.ascends;
    each = h.each;
    all = λ i l m.
        (let cases : (i < k) ⊎ (i ≡ k) = grind arith in
        elim cases [
          | inl x ↦ h.all i x m
          | inr e ↦
              absurd (not (subst (λ j. IsMinimalLeft list.rules (left_of list.rules j)) e m))
        ]);
    shapes = h.shapes;
    few = (let f = h.few in omega arith);
  }

  -- a rule whose left side is minimal is kept
  pub keeps_put : (k : ℕ) (items now : List code.Rule) (rule : code.Rule) (o : Order) →
      o ≡ list.order → IsKeeping list.matrix list.order list.rules k items →
      IsKept list.rules (sides rule) →
      rule.left.list ≡ left_of list.rules k → RuleSuits list.matrix rule →
      map sides now ≡ put (monomial_cmp o rule.left.margins) (sides rule) (map sides items) →
      ((other : code.Rule) → In other now → In other items ⊎ (other ≡ rule)) →
      length now ≤ length items + 1 → IsKeeping list.matrix list.order list.rules (k + 1) now
  keeps_put k items now rule o is h kept left suits e members few =
      let compare = cmp_of list.order list.matrix in
      let old = map sides items in
      let new = sides rule in
      let left_shape = suits.left in
      let f : map sides now ≡ put compare new old =
      e ∙ ap (λ d. put (monomial_cmp o d) new old) left_shape.margins
      ∙ ap (λ (x : Order). put (monomial_cmp x list.matrix.rows) new old) is in
      let ordered = order list are in
      let has = put-has compare new old in
      let same : (has.0).0 ≡ new.0 =
      elim has.2 [
        | inl g ↦ ap (λ (r : Rule). r.0) g
        | inr g ↦
            ordered.definite (has.0).0 new.0 (left_long has.0 (h.each has.0 g.0))
            (left_long new kept) g.1
      ] in
      record {
        ascends =
            subst (LeftsAscend compare) (sym f)
            (put-ascends compare ordered.total new old h.ascends);
        each = λ r i. elim (put-only compare new old r (subst (In r) f i)) [
          | inl g ↦
              h.each r g
          | inr g ↦ subst (IsKept list.rules) (sym g) kept
        ];
        all = λ i l m.
            (let cases : (i < k) ⊎ (i ≡ k) = grind arith in
            elim cases [
              | inl x ↦
                  (let r = h.all i x m in
                  (r.0, subst (In r.0) (sym f) (put-old compare new old r.0 r.1), r.2))
              | inr g ↦ (
                has.0,
                subst (In has.0) (sym f) has.1,
                same ∙ left
                    ∙ ap (left_of list.rules) (sym g),
              )
            ]);
        shapes =
            λ r i. elim (members r i) [
              | inl g ↦ h.shapes r g
              | inr g ↦
                  subst (RuleSuits list.matrix) (sym g) suits
            ];
        few = (let g = h.few in omega arith);
      }

  -- when all rules are done
  pub reduction_of : (k : ℕ) (items : List code.Rule) → length list.rules ≤ k →
      IsKeeping list.matrix list.order list.rules k items → IsReduction list.rules (map sides items)
  reduction_of k items h keeping = record {
    all = λ l m.
        (let place = m.0 in
        let first : Rule = (l, place.1) in
        let here = left-is list.rules place.0 first place.2 in
        let within = place-within list.rules place.0 first place.2 in
        let r = keeping.all place.0 (omega arith) (subst (IsMinimalLeft list.rules) (sym here) m) in
        let p = In-place (map sides items) r.0 r.1 in
        (p.0, (r.0).1, p.1 ∙ ap (λ x. let pair : Rule = (x, (r.0).1) in Some pair) (r.2 ∙ here)));
    minimal =
        λ i rule e. (let kept = keeping.each rule (place-in (map sides items) i rule e) in
        kept.minimal);
    leads = λ i rule e. (let kept = keeping.each rule (place-in (map sides items) i rule e) in
        kept.leads);
    ends = λ i rule e. (let kept = keeping.each rule (place-in (map sides items) i rule e) in
        kept.ends);
  }

  -- the same where memory was there
  pub keeps_put_ok : {E : Type 0} (res : Result (Unit {0}) E) (k : ℕ) (items now : List code.Rule)
      (rule : code.Rule) (o : Order) → o ≡ list.order →
      IsKeeping list.matrix list.order list.rules k items →
      IsKept list.rules (sides rule) → rule.left.list ≡ left_of list.rules k →
      RuleSuits list.matrix rule →
      OnOk res
      (map sides now ≡ put (monomial_cmp o rule.left.margins) (sides rule) (map sides items)) →
      ((other : code.Rule) → In other now → In other items ⊎ (other ≡ rule)) →
      length now ≤ length items + 1 →
      OnOk res (IsKeeping list.matrix list.order list.rules (k + 1) now)
  keeps_put_ok (Ok x) k items now rule o is h kept left suits e members few =
      keeps_put k items now rule o is h kept left suits e members few
  keeps_put_ok (Err x) k items now rule o is h kept left suits e members few = tt

-- what holds of the kept rules holds of the list made of them
pub same_ok : {E : Type 0} (P : List Rule → Type 0) (res : Result RuleList E) (kept : List Rule) →
    P kept → IfOk res (λ l. l.rules ≡ kept) → IfOk res (λ l. P l.rules)
same_ok P (Ok l) kept h e = subst P (sym e) h
same_ok P (Err x) kept h e = tt
