-- The rules that a reduction keeps.
use Rattle.std.proofs.Common.{Bool, List, Some, [], ap, arith, false, length, not, slice_get, subst, sym, true, ℕ, ◌+◌, ◌<◌, ◌∙◌, ◌∷◌, ◌≡◌}
use Rattle.std.specs.Bool.{OnFalse}
use Rattle.mb_completion.proofs.Looks.{fit, ordered}
use Rattle.mb_completion.specs.loops.Kept.{IsKept}
use Rattle.mb_matrix.specs.Matrix.{IsDesign}
use Rattle.mb_order.proofs.ExponentLaws.{within-both}
use Rattle.mb_order.proofs.PeakLaws.{left-is, sides-get}
use Rattle.mb_order.proofs.WeightLaws.{symbols-length}
use Rattle.mb_order.specs.Monomial.{Monomial}
use Rattle.mb_order.specs.Peak.{left_of, right_of, sides_of}
use Rattle.mb_order.specs.Rewriting.{LeadsBy, Rule, Step}
use Rattle.mb_order.specs.Weight.{IsLight, symbols_of, weights}
use Rattle.mb_rules.proofs.NormalForms.{normal-leads}
use Rattle.mb_rules.specs.NormalForm.{NormalBy}
use Rattle.mb_rules.specs.ReducedBasis.{IsMinimalLeft}
use Rattle.mb_rules.specs.RuleList.{RuleList, ValidRules, cmp_of}
use Rattle.mb_tables.proofs.ListLaws.{place-within}
use Rattle.mb_tables.proofs.VectorLaws.{at-minus, at-plus, length-minus, length-plus, plus-nil, same, within-at, within-yes}
use Rattle.mb_tables.specs.Vectors.{at, minus, plus, within}

-- the test of the code: it divides and is not the same
pub unless_same : (x : Bool) (a b : List ℕ) → length a ≡ length b → x ≡ within b a →
    OnFalse (not x) (within a b ≡ true → a ≡ b)
unless_same true a b e f = λ g. within-both a b e g (sym f)
unless_same false a b e f = tt

module _ (list : RuleList) (design : IsDesign list.matrix)
    (valid : ValidRules list.order list.matrix list.rules) where
  -- a left side has all symbols
  left_wide : (k : ℕ) → k < length list.rules →
      length (left_of list.rules k) ≡ list.matrix.rows + length list.matrix.columns
  left_wide k h = let v = valid k (sides_of list.rules k) (sides-get list.rules k h) in
      v.left_wide ∙ symbols-length list.matrix.rows list.matrix.columns

  -- what divides a minimal left side is the same
  pub divisor_same : (q k : ℕ) → q < length list.rules → k < length list.rules →
      within (left_of list.rules q) (left_of list.rules k) ≡ true →
      IsMinimalLeft list.rules (left_of list.rules k) →
      left_of list.rules q ≡ left_of list.rules k
  divisor_same q k h g w minimal =
      let a = left_of list.rules q in
      let l = left_of list.rules k in
      let rest = minus l a in
      let x = left_wide q h in
      let y = left_wide k g in
      let long = length-minus l a in
      minimal.1 q (sides_of list.rules q) rest (sides-get list.rules q h) long
      (same l (plus a rest) (omega (arith, length-plus a rest)) (λ i. let z = within-at a l w i in
      omega (arith, at-plus a rest i, at-minus l a i)))

  -- a divided left side is not minimal
  pub divided : (q k : ℕ) → q < length list.rules → k < length list.rules →
      within (left_of list.rules q) (left_of list.rules k) ≡ true →
      (left_of list.rules q ≡ left_of list.rules k → ⊥) →
      IsMinimalLeft list.rules (left_of list.rules k) → ⊥
  divided q k h g w differs minimal = differs (divisor_same q k h g w minimal)

  -- an undivided left side is minimal
  pub undivided : (k : ℕ) → k < length list.rules →
      ((i : ℕ) → i < length list.rules →
      within (left_of list.rules i) (left_of list.rules k) ≡ true →
      left_of list.rules i ≡ left_of list.rules k) →
      IsMinimalLeft list.rules (left_of list.rules k)
  undivided k h all = (
    (k, right_of list.rules k, sides-get list.rules k h),
    (λ j rule rest e long f.
        let a = left-is list.rules j rule e in
        let l = left_of list.rules k in
        let w : within rule.0 l ≡ true =
        within-yes rule.0 l (λ i. let z = ap (λ u. at u i) f in
        omega (arith, at-plus rule.0 rest i)) in
        sym a ∙ all j (place-within list.rules j rule e) (ap (λ u. within u l) a ∙ w)),
  )

  -- a right side weighs what its left side does
  pub right_light : (k : ℕ) (rule : Rule) → slice_get list.rules k ≡ Some rule →
      IsLight list.matrix (left_of list.rules k) → IsLight list.matrix rule.1
  right_light k rule e light i =
      let v = valid k rule e in
      let x = ap (λ u. at u i) v.equal_weight in
      let y = ap (λ u. at (weights list.matrix u) i) (left-is list.rules k rule e) in
      let z = light i in
      omega arith

  -- a minimal left side with the normal form of its right side is kept
  pub lowered_kept : (k : ℕ) (rule : Rule) (l r : Monomial) → slice_get list.rules k ≡ Some rule →
      IsMinimalLeft list.rules (left_of list.rules k) → l ≡ rule.0 →
      ((trace : List ℕ) × NormalBy list.rules trace rule.1 r) → IsKept list.rules (l, r)
  unfolding LeadsBy
  lowered_kept k rule l r e minimal f normal =
      let n = normal-leads list.matrix.rows (symbols_of list.matrix)
      (cmp_of list.order list.matrix) list.rules (fit list.matrix list.order design)
      (ordered list.matrix list.order design) valid normal.0 rule.1 r normal.1 in
      let s : Step list.rules k l rule.1 = (rule, [], e, f ∙ plus-nil rule.0, plus-nil rule.1) in
      record {
        minimal = subst (IsMinimalLeft list.rules) (left-is list.rules k rule e ∙ sym f) minimal;
        leads = (k ∷ normal.0, (rule.1, s, n.0));
        ends = n.1;
      }
