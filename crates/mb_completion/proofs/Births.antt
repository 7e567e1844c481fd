-- The rules that a run begins with are valid, and their starts meet.
use Rattle.std.proofs.Common.{List, Some, [], ap, arith, drop, length, length-append, refl, reverse, slice_get, subst, suc, sum, sym, take, zero, ℕ, ◌++◌, ◌+◌, ◌∙◌, ◌∷◌, ◌≡◌}
use Rattle.std.specs.Cmp.Lexicographic.{slice_cmp}
use Rattle.std.specs.Ordering.{nat_cmp, ordering_then}
use Rattle.std.specs.declared.cmp.Ordering.TheVariants.{Greater}
use Rattle.std.specs.declared.cmp.Ordering.{Ordering}
use Rattle.mb_completion.proofs.FinishedRuns.{finished}
use Rattle.mb_completion.specs.Laws.{FinishedRun}
use Rattle.mb_completion.specs.Start.{birth_of, births, births_from, births_of}
use Rattle.mb_matrix.proofs.FillLaws.{margins-none, margins-unit}
use Rattle.mb_matrix.specs.Fiber.{AreColumns, IsColumn, margins}
use Rattle.mb_order.proofs.OrderLaws.{all_zero-sum, nat_cmp-none}
use Rattle.mb_order.proofs.WeightLaws.{symbols-length, weight}
use Rattle.mb_order.specs.Order.{cells_cmp, graded, monomial_cmp}
use Rattle.mb_order.specs.Rewriting.{AreValid, IsValid, LeadsBy, Rule, Step}
use Rattle.mb_order.specs.Weight.{symbols}
use Rattle.mb_order.specs.declared.order.Order.{Order}
use Rattle.mb_rules.specs.Elimination.{StartsMeet}
use Rattle.mb_tables.proofs.ListLaws.{get-more}
use Rattle.mb_tables.proofs.UnitLaws.{length-unit}
use Rattle.mb_tables.proofs.VectorLaws.{length-zeros, plus-comm, plus-nil, plus-zeros, sum-zeros}
use Rattle.mb_tables.specs.Vectors.{plus, unit, zeros}

-- the front of two lists is the first
take-front : (d : ℕ) (u v : List ℕ) → length u ≡ d → take d (u ++ v) ≡ u
take-front zero [] v e = refl
take-front zero (x ∷ u) v e = absurd (omega arith)
take-front (suc d) [] v e = absurd (omega arith)
take-front (suc d) (x ∷ u) v e = ap (λ l. x ∷ l) (take-front d u v (omega arith))

-- the rule of a place is that of its column
pub births-place : (d n j : ℕ) (columns : List (List ℕ)) (k : ℕ) (rule : Rule) →
    slice_get (births_from d n j columns) k ≡ Some rule →
    (column : List ℕ) × (slice_get columns k ≡ Some column) × (birth_of d n (j + k) column ≡ rule)
unfolding births_from
births-place d n j [] k rule e = cc
births-place d n j (column ∷ columns) zero rule e = let f : j + 0 ≡ j = omega arith in
    let g : birth_of d n j column ≡ rule = cc in
    (column, refl, ap (λ i. birth_of d n i column) f ∙ g)
births-place d n j (column ∷ columns) (suc k) rule e =
    let r = births-place d n (suc j) columns k rule e in
    let f : j + suc k ≡ suc j + k = omega arith in
    (r.0, r.1, ap (λ i. birth_of d n i r.0) f ∙ r.2)

-- the rule of a column stands at its place
births-get : (d n j : ℕ) (columns : List (List ℕ)) (k : ℕ) (column : List ℕ) →
    slice_get columns k ≡ Some column →
    slice_get (births_from d n j columns) k ≡ Some (birth_of d n (j + k) column)
unfolding births_from
births-get d n j [] k column e = cc
births-get d n j (c ∷ columns) zero column e = let f : j + 0 ≡ j = omega arith in
    let g : c ≡ column = cc in
    ap (λ x. Some (birth_of d n j x)) g ∙ ap (λ i. Some (birth_of d n i column)) (sym f)
births-get d n j (c ∷ columns) (suc k) column e =
    let f : j + suc k ≡ suc j + k = omega arith in
    births-get d n (suc j) columns k column e ∙ ap (λ i. Some (birth_of d n i column)) (sym f)

-- what stands among columns is one
column_at : (d : ℕ) (columns : List (List ℕ)) (j : ℕ) (column : List ℕ) → AreColumns d columns →
    slice_get columns j ≡ Some column → IsColumn d column
column_at d [] j column h e = cc
column_at d (b ∷ columns) zero column h e = let f : b ≡ column = cc in subst (IsColumn d) f h.0
column_at d (b ∷ columns) (suc j) column h e = column_at d columns j column h.1 e

-- what has a degree above 0 is greater than what has 0
above_zero : (n : ℕ) (r : Ordering) → (n ≡ 0 → ⊥) → ordering_then (nat_cmp n 0) r ≡ Greater
above_zero zero r h = absurd (h refl)
above_zero (suc n) r h = ap (λ o. ordering_then o r) (nat_cmp-none n)

-- the margins' symbols of a column are greater than its cell's symbol
birth-down : (order : Order) (d n j : ℕ) (column : List ℕ) → IsColumn d column →
    monomial_cmp order d (column ++ zeros n) (zeros d ++ unit n j) ≡ Greater
unfolding monomial_cmp
birth-down order d n j column h =
    let not_none : sum column ≡ 0 → ⊥ =
    λ e. (let a = all_zero-sum column e in let b = h.not_zero in cc) in
    let cells = cells_cmp order (drop d (column ++ zeros n)) (drop d (zeros d ++ unit n j)) in
    let front : graded (take d (column ++ zeros n)) (take d (zeros d ++ unit n j)) ≡ Greater =
    ap (λ x. graded x (take d (zeros d ++ unit n j))) (take-front d column (zeros n) h.high)
    ∙ ap (graded column) (take-front d (zeros d) (unit n j) (length-zeros d))
    ∙ ap (λ m.
    ordering_then (nat_cmp (sum column) m) (slice_cmp nat_cmp (reverse (zeros d)) (reverse column)))
    (sum-zeros d)
    ∙ above_zero (sum column) (slice_cmp nat_cmp (reverse (zeros d)) (reverse column)) not_none in
    ap (λ o. ordering_then o cells) front

-- the rule of a column is valid
pub birth-valid : (order : Order) (d : ℕ) (columns : List (List ℕ)) (j : ℕ) (column : List ℕ) →
    AreColumns d columns → slice_get columns j ≡ Some column →
    IsValid d (symbols d columns) (monomial_cmp order d) (birth_of d (length columns) j column)
birth-valid order d columns j column fit e =
    let n = length columns in
    let c = column_at d columns j column fit e in
    let high = c.high in
    let r = margins-unit d columns j column fit e in
    let wide = symbols-length d columns in
    let left = weight d columns column (zeros n) fit high in
    let right = weight d columns (zeros d) (unit n j) fit (length-zeros d) in
    let left_is : plus column (margins d columns (zeros n)) ≡ column =
    ap (plus column) (margins-none d columns n fit) ∙ plus-comm column (zeros d)
    ∙ plus-zeros d column (omega arith) in
    let right_is : plus (zeros d) (margins d columns (unit n j)) ≡ column = ap (plus (zeros d)) r.0
    ∙ plus-zeros d column (omega arith) in
    record {
      left_wide = length-append column (zeros n) ∙ (let b = length-zeros n in omega arith);
      right_wide = length-append (zeros d) (unit n j)
          ∙ (let a = length-zeros d in let b = length-unit n j in omega arith);
      equal_weight = left ∙ left_is ∙ sym (right ∙ right_is);
      down = birth-down order d n j column c;
    }

-- the rules at the start are valid
pub births-valid : (order : Order) (d : ℕ) (columns : List (List ℕ)) → AreColumns d columns →
    AreValid d (symbols d columns) (monomial_cmp order d) (births d columns)
births-valid order d columns fit k rule e =
    let r = births-place d (length columns) 0 columns k rule e in
    let z : 0 + k ≡ k = omega arith in
    subst (IsValid d (symbols d columns) (monomial_cmp order d))
    (ap (λ i. birth_of d (length columns) i r.0) (sym z)
    ∙ r.2) (birth-valid order d columns k r.0 fit r.1)

-- the starts meet by them and more
starts-more : (d : ℕ) (columns : List (List ℕ)) (more : List Rule) →
    StartsMeet d columns (births d columns ++ more)
unfolding LeadsBy
starts-more d columns more j column e =
    let n = length columns in
    let rules = births d columns ++ more in
    let rule = birth_of d n j column in
    let z : 0 + j ≡ j = omega arith in
    let there =
    get-more (births d columns) more j rule (births-get d n 0 columns j column e
    ∙ ap (λ i. Some (birth_of d n i column)) z) in
    let s : Step rules j rule.0 rule.1 = (rule, [], there, plus-nil rule.0, plus-nil rule.1) in
    (rule.1, (j ∷ [], (rule.1, s, refl)), ([], refl))

-- the rules of a finished run are valid, and their pairs and starts meet
pub finished_run : FinishedRun
finished_run matrix order budget final looks are r =
    let begin = births_of matrix in
    let valid = births-valid order matrix.rows matrix.columns are.each in
    let f = finished matrix order are budget begin 0 final looks valid (omega arith)
    (λ k i j low high less s t u. absurd (omega arith)) r in (
      f.0,
      f.1,
      subst (StartsMeet matrix.rows matrix.columns) (sym (f.2).1)
          (starts-more matrix.rows matrix.columns (f.2).0),
    )
