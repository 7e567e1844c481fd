-- The worked run, reduced: of its three rules one has a left side that stands twice.
use Rattle.std.proofs.Common.{List, Some, [], ap, arith, inl, inr, refl, slice_get, subst, suc, sym, zero, ℕ, ◌∙◌, ◌∷◌, ◌≡◌, ◌≤◌}
use Rattle.std.proofs.lemmas.List.Elements.{All-from_recursion}
use Rattle.std.specs.Prelude.{All, length}
use Rattle.std.specs.declared.cmp.Ordering.TheVariants.{Less}
use Rattle.mb_completion.proofs.Births.{finished_run}
use Rattle.mb_completion.proofs.RunToReduced.{kept_reduced, run_reaches}
use Rattle.mb_completion.specs.Basis.{IsReducedBasis}
use Rattle.mb_completion.specs.Run.{Finished, RunEnds}
use Rattle.mb_completion.specs.SampleRun.{sample_basis, sample_final, sample_matrix}
use Rattle.mb_matrix.specs.Matrix.{IsDesign}
use Rattle.mb_order.specs.Monomial.{Monomial}
use Rattle.mb_order.specs.Order.{monomial_cmp}
use Rattle.mb_order.specs.Rewriting.{Leads, LeadsBy, Rule}
use Rattle.mb_order.specs.declared.order.Order.TheVariants.{Grevlex}
use Rattle.mb_rules.specs.NormalForm.{IsIrreducible}
use Rattle.mb_rules.specs.ReducedBasis.{IsMinimalLeft, IsReduction, LeftsAscend}
use Rattle.mb_tables.proofs.VectorLaws.{at-plus}
use Rattle.mb_tables.specs.Lists.{In}
use Rattle.mb_tables.specs.Vectors.{all_zero, at, plus}

-- the margin's symbol
abbrev pub t : Monomial
t = 1 ∷ 0 ∷ 0 ∷ []

-- the first cell's symbol
abbrev pub x : Monomial
x = 0 ∷ 1 ∷ 0 ∷ []

-- the last cell's symbol
abbrev pub y : Monomial
y = 0 ∷ 0 ∷ 1 ∷ []

-- the matrix is a design matrix
pub sample_design : IsDesign sample_matrix
unfolding all_zero
sample_design = record {
  some_rows = omega arith;
  few_rows = omega arith;
  some_cells = omega arith;
  few_cells = omega arith;
  each = (record { high = refl; not_zero = refl }, (record { high = refl; not_zero = refl }, tt));
  small =
      let ones = All-from_recursion (λ (entry : ℕ). entry ≤ 1000) (1 ∷ []) (omega arith, tt) in
      All-from_recursion (λ (column : List ℕ). All (λ entry. entry ≤ 1000) column)
      ((1 ∷ []) ∷ (1 ∷ []) ∷ []) (ones, (ones, tt));
}

-- equal rules that are there
pub same_rule : (p q : Rule) → Some p ≡ Some q → p ≡ q
same_rule p q e = cc

-- the left side of a rule of the run
left_is : (k : ℕ) (rule p : Rule) → slice_get sample_final k ≡ Some rule →
    slice_get sample_final k ≡ Some p → p.0 ≡ rule.0
left_is k rule p e f = ap (λ (r : Rule). r.0) (same_rule p rule (sym f ∙ e))

-- each left side of the run is one of the basis
kept : (l : Monomial) (k : ℕ) (r : Monomial) →
    slice_get sample_final k ≡ (let p : Rule = (l, r) in Some p) →
    (i : ℕ) × (q : Monomial) × (slice_get sample_basis i ≡ (let p : Rule = (l, q) in Some p))
kept l zero r e =
    let f = left_is 0 (l, r) (t, x) e refl in
    (1, y, ap (λ m. let p : Rule = (m, y) in Some p) f)
kept l (suc zero) r e =
    let f = left_is 1 (l, r) (t, y) e refl in
    (1, y, ap (λ m. let p : Rule = (m, y) in Some p) f)
kept l (suc (suc zero)) r e =
    let f = left_is 2 (l, r) (x, y) e refl in
    (0, y, ap (λ m. let p : Rule = (m, y) in Some p) f)
kept l (suc (suc (suc k))) r e = cc

-- no left side of the run divides the last symbol
pub last_irreducible : IsIrreducible sample_final y
last_irreducible zero p s =
    let f = left_is 0 s.0 (t, x) s.2 refl in
    let a = ap (λ u. at u 0) s.3 in
    let b = ap (λ u. at u 0) f in
    omega (arith, at-plus (s.0).0 s.1 0)
last_irreducible (suc zero) p s =
    let f = left_is 1 s.0 (t, y) s.2 refl in
    let a = ap (λ u. at u 0) s.3 in
    let b = ap (λ u. at u 0) f in
    omega (arith, at-plus (s.0).0 s.1 0)
last_irreducible (suc (suc zero)) p s =
    let f = left_is 2 s.0 (x, y) s.2 refl in
    let a = ap (λ u. at u 1) s.3 in
    let b = ap (λ u. at u 1) f in
    omega (arith, at-plus (s.0).0 s.1 1)
last_irreducible (suc (suc (suc k))) p s = let e = s.2 in cc

-- the first cell's symbol is divided by no other left side
x_minimal : IsMinimalLeft sample_final x
x_minimal = ((2, y, refl), only)
  where
    only : (k : ℕ) (rule : Rule) (rest : Monomial) → slice_get sample_final k ≡ Some rule →
        length rest ≡ 3 → x ≡ plus rule.0 rest → rule.0 ≡ x
    only zero rule rest e long f =
        let a = ap (λ u. at u 0) f in
        let b = ap (λ u. at u 0) (left_is 0 rule (t, x) e refl) in
        absurd (omega (arith, at-plus rule.0 rest 0))
    only (suc zero) rule rest e long f =
        let a = ap (λ u. at u 0) f in
        let b = ap (λ u. at u 0) (left_is 1 rule (t, y) e refl) in
        absurd (omega (arith, at-plus rule.0 rest 0))
    only (suc (suc zero)) rule rest e long f = sym (left_is 2 rule (x, y) e refl)
    only (suc (suc (suc k))) rule rest e long f = cc

-- nor is the margin's
t_minimal : IsMinimalLeft sample_final t
t_minimal = ((0, x, refl), only)
  where
    only : (k : ℕ) (rule : Rule) (rest : Monomial) → slice_get sample_final k ≡ Some rule →
        length rest ≡ 3 → t ≡ plus rule.0 rest → rule.0 ≡ t
    only zero rule rest e long f = sym (left_is 0 rule (t, x) e refl)
    only (suc zero) rule rest e long f = sym (left_is 1 rule (t, y) e refl)
    only (suc (suc zero)) rule rest e long f =
        let a = ap (λ u. at u 1) f in
        let b = ap (λ u. at u 1) (left_is 2 rule (x, y) e refl) in
        absurd (omega (arith, at-plus rule.0 rest 1))
    only (suc (suc (suc k))) rule rest e long f = cc

-- the first cell's symbol leads to the last cell's in one step
x_leads : Leads sample_final x y
unfolding LeadsBy plus
x_leads = (2 ∷ [], (y, ((x, y), [], refl, refl, refl), refl))

-- and so does the margin's
t_leads : Leads sample_final t y
unfolding LeadsBy plus
t_leads = (1 ∷ [], (y, ((t, y), [], refl, refl, refl), refl))

-- what holds of both rules of the basis holds of each
each : (P : Rule → Type 0) → P (x, y) → P (t, y) → (k : ℕ) (rule : Rule) →
    slice_get sample_basis k ≡ Some rule → P rule
each P first second zero rule e = subst P (same_rule (x, y) rule e) first
each P first second (suc zero) rule e = subst P (same_rule (t, y) rule e) second
each P first second (suc (suc k)) rule e = cc

-- the basis is the reduction of the run
pub sample_reduction : IsReduction sample_final sample_basis
sample_reduction = record {
  all = λ l m. kept l (m.0).0 (m.0).1 (m.0).2;
  minimal = each (λ (r : Rule). IsMinimalLeft sample_final r.0) x_minimal t_minimal;
  leads = each (λ (r : Rule). Leads sample_final r.0 r.1) x_leads t_leads;
  ends = each (λ (r : Rule). IsIrreducible sample_final r.1) last_irreducible last_irreducible;
}

-- so it is the reduced basis
pub reduced_sample : RunEnds sample_matrix Grevlex 1 (Finished sample_final 1) →
    IsReducedBasis sample_matrix Grevlex sample_basis
unfolding LeftsAscend In monomial_cmp
reduced_sample run =
    let f = finished_run sample_matrix Grevlex 1 sample_final 1 sample_design run in
    let reach = run_reaches sample_matrix Grevlex sample_design 1 sample_final 1 run in
    record {
      reduced = kept_reduced sample_matrix Grevlex sample_design sample_final sample_basis f.0 reach
          sample_reduction;
      ascending = (last, ((λ later i. absurd i), tt));
    }
  where
    last : (later : Rule) → In later ((t, y) ∷ []) → monomial_cmp Grevlex 1 x later.0 ≡ Less
    last later (inl e) = ap (λ (r : Rule). monomial_cmp Grevlex 1 x r.0) e
    last later (inr i) = absurd i
