-- The rules that a run begins with, as the code makes them.
use Rattle.std.proofs.Common.{List, Some, [], ap, append-nil, append_assoc, arith, drop, get_or, inl, inr, length, refl, slice_get, subst, suc, sym, zero, ℕ, ◌++◌, ◌+◌, ◌<◌, ◌∙◌, ◌∷◌, ◌≡◌, ◌≤◌, ◌⊎◌}
use Rattle.std.proofs.lemmas.List.{get_or_past}
use Rattle.std.proofs.lemmas.Option.{get_or_from_slice_get, slice_get-get_or, slice_get_within}
use Rattle.mb_completion.proofs.Births.{birth-valid, births-place}
use Rattle.mb_completion.specs.Run.{AreLight}
use Rattle.mb_completion.specs.Start.{birth_of, births, births_from}
use Rattle.mb_completion.specs.loops.Going.{pairs_before}
use Rattle.mb_matrix.proofs.FillLaws.{margins-none, margins-unit}
use Rattle.mb_matrix.specs.Matrix.{Design, IsDesign}
use Rattle.mb_order.proofs.WeightLaws.{weight}
use Rattle.mb_order.specs.Peak.{pairs_below}
use Rattle.mb_order.specs.Rewriting.{IsValid, Rule}
use Rattle.mb_order.specs.Weight.{IsLight, symbols_of, weights}
use Rattle.mb_order.specs.declared.order.Order.{Order}
use Rattle.mb_rules.specs.RuleList.{cmp_of}
use Rattle.mb_tables.proofs.VectorLaws.{plus-comm, plus-zeros}
use Rattle.mb_tables.specs.Vectors.{at, plus, zeros}

-- no columns, no rules
births-none : (d n i : ℕ) → births_from d n i [] ≡ []
unfolding births_from
births-none d n i = refl

-- the rules so far and those to come are all
first-place : (d n : ℕ) (columns : List (List ℕ)) (k i : ℕ) → k < length columns →
    births_from d n i (drop k columns)
    ≡ birth_of d n i (get_or columns k []) ∷ births_from d n (suc i) (drop (suc k) columns)
unfolding births_from
first-place d n [] k i h = absurd (omega arith)
first-place d n (c ∷ columns) zero i h = refl
first-place d n (c ∷ columns) (suc k) i h = first-place d n columns k i (omega arith)

-- one rule more of those at the start
pub first-more : (d n j : ℕ) (columns : List (List ℕ)) (rules now all : List Rule) (rule : Rule) →
    j < length columns → now ≡ rules ++ (rule ∷ []) →
    rule ≡ birth_of d n j (get_or columns j []) →
    rules ++ births_from d n j (drop j columns) ≡ all →
    now ++ births_from d n (j + 1) (drop (j + 1) columns) ≡ all
first-more d n j columns rules now all rule h e f g =
    let a : j + 1 ≡ suc j = omega arith in
    let rest = births_from d n (suc j) (drop (suc j) columns) in
    ap (λ k. now ++ births_from d n k (drop k columns)) a ∙ ap (λ l. l ++ rest) e
    ∙ append_assoc rules (rule ∷ []) rest
    ∙ ap (λ r. rules ++ (r ∷ rest)) f ∙ ap (λ l. rules ++ l) (sym (first-place d n columns j j h))
    ∙ g

-- the rules of all columns are those at the start
pub first-all : (d n j : ℕ) (columns : List (List ℕ)) (rules all : List Rule) → length columns ≤ j →
    rules ++ births_from d n j (drop j columns) ≡ all → rules ≡ all
first-all d n j columns rules all h e = sym (append-nil rules)
    ∙ ap (λ l. rules ++ l) (sym (none d n j columns j h)) ∙ e
  where
    none : (d n i : ℕ) (columns : List (List ℕ)) (k : ℕ) → length columns ≤ k →
        births_from d n i (drop k columns) ≡ []
    none d n i [] zero h = births-none d n i
    none d n i [] (suc k) h = births-none d n i
    none d n i (c ∷ columns) zero h = absurd (omega arith)
    none d n i (c ∷ columns) (suc k) h = none d n i columns k (omega arith)

-- each of them is valid
pub first_rule_valid : (matrix : Design) (order : Order) (j : ℕ) (rule : Rule) → IsDesign matrix →
    j < length matrix.columns →
    rule ≡ birth_of matrix.rows (length matrix.columns) j (get_or matrix.columns j []) →
    IsValid matrix.rows (symbols_of matrix) (cmp_of order matrix) rule
first_rule_valid matrix order j rule are h e =
    subst (IsValid matrix.rows (symbols_of matrix) (cmp_of order matrix)) (sym e)
    (birth-valid order matrix.rows matrix.columns j (get_or matrix.columns j []) are.each
    (slice_get-get_or matrix.columns j [] h))

-- there are as many as columns
pub births-length : (d n j : ℕ) (columns : List (List ℕ)) →
    length (births_from d n j columns) ≡ length columns
unfolding births_from
births-length d n j [] = refl
births-length d n j (c ∷ columns) = ap suc (births-length d n (suc j) columns)

-- no pair takes its turn before the first row
pub before-none : (rules : List Rule) → 0 ≡ length (pairs_before rules 0 0)
unfolding pairs_below
before-none rules = refl

-- the weight of a column's margin symbols is the column
birth-light : (matrix : Design) (j : ℕ) (column : List ℕ) → IsDesign matrix →
    slice_get matrix.columns j ≡ Some column →
    IsLight matrix (column ++ zeros (length matrix.columns))
birth-light matrix j column are e i =
    let d = matrix.rows in
    let n = length matrix.columns in
    let long = (margins-unit d matrix.columns j column are.each e).1 in
    let w : weights matrix (column ++ zeros n) ≡ column =
    weight d matrix.columns column (zeros n) are.each long
    ∙ ap (plus column) (margins-none d matrix.columns n are.each)
    ∙ plus-comm column (zeros d) ∙ plus-zeros d column (omega arith) in
    let f = ap (λ u. at u i) w in
    let here = get_or_from_slice_get matrix.columns j column [] e in
    let within = slice_get_within matrix.columns j column e in
    let each = are.small j [] within in
    let cases : (i < length column) ⊎ (length column ≤ i) = grind arith in
    elim cases [
      | inl l ↦
          let g = ap length here in
          let h = ap (λ u. at u i) here in
          let small = each i 0 (omega arith) in
          omega arith
      | inr l ↦ (let past = get_or_past column i 0 l in omega arith)
    ]

-- no left side of the first rules is too heavy
pub births-light : (matrix : Design) → IsDesign matrix →
    AreLight matrix (births matrix.rows matrix.columns)
births-light matrix are k rule e =
    let r = births-place matrix.rows (length matrix.columns) 0 matrix.columns k rule e in
    subst (λ (x : Rule). IsLight matrix x.0) r.2 (birth-light matrix k r.0 are r.1)

-- nor is either side of one of them
pub first_rule_light : (matrix : Design) (order : Order) (j : ℕ) (rule : Rule) → IsDesign matrix →
    j < length matrix.columns →
    rule ≡ birth_of matrix.rows (length matrix.columns) j (get_or matrix.columns j []) →
    IsLight matrix rule.0 × IsLight matrix rule.1
first_rule_light matrix order j rule are h e =
    let column = get_or matrix.columns j [] in
    let left : IsLight matrix rule.0 =
    subst (λ (r : Rule). IsLight matrix r.0) (sym e)
    (birth-light matrix j column are (slice_get-get_or matrix.columns j [] h)) in
    let weight = (first_rule_valid matrix order j rule are h e).equal_weight in
    (left, λ i. let f = ap (λ u. at u i) weight in let l = left i in omega arith)
