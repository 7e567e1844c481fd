-- The groups of a scale of rows part the cells.
use Rattle.std.proofs.Common.{Bool, List, None, Ok, Option, Some, [], ap, arith, cond, false, get_or, length, not, refl, suc, sym, true, zero, ℕ, ◌+◌, ◌<◌, ◌==◌, ◌∙◌, ◌∷◌, ◌≡◌, ◌≤◌, ◌↔◌, ◌⊎◌, inl, inr}
use Rattle.std.proofs.lemmas.Bool.{cases_lt, eq-eqb, eqb-true}
use Rattle.std.proofs.lemmas.Bool.Decides.{nat_tests}
use Rattle.std.proofs.lemmas.List.FromFn.{get_or-map-range_with_len, get_or-range_with_len, length-range_with_len}
use Rattle.std.proofs.lemmas.List.Sums.{fails_before_first, passes_at_first, sum_by-cons}
use Rattle.std.specs.List.{count_by, find, position, position_or_len, range_with_len}
use Rattle.std.specs.Prelude.{option_map}
use Rattle.mb_matrix.specs.Faults.{unless_fault}
use Rattle.mb_matrix.specs.Matrix.{Design}
use Rattle.mb_matrix.specs.Measure.{IsMeasureOf, RowMargins, Weighting, group_at, groups_of, has_cell, is_group_row, measure_fault, numbered_row, scale_fault, uncovered}
use Rattle.mb_matrix.specs.declared.measure_fault.MeasureFault.{MeasureFault}
use Rattle.mb_matrix.specs.declared.measure_fault.MeasureFault.TheVariants.{BadScaleRow, ScaleNotCover}
use Rattle.mb_tables.proofs.OptionLaws.{or-none}
use Rattle.mb_tables.specs.Vectors.{at}

-- 1 for an element that passes
abbrev one_if : Bool → ℕ
one_if t = cond t 1 0

module _ {X : Type 0} (p : X → Bool) where
  -- one element in front adds 1 where it passes
  count_cons : (x : X) (xs : List X) → count_by p (x ∷ xs) ≡ one_if (p x) + count_by p xs
  count_cons x xs = sum_by-cons (λ x. cond (p x) 1 0) x xs

  -- where no element passes, none is counted
  count_none : (xs : List X) (d : X) → ((k : ℕ) → k < length xs → p (get_or xs k d) ≡ false) →
      count_by p xs ≡ 0
  count_none [] d none = refl
  count_none (x ∷ xs) d none =
      let failed : p x ≡ false = none 0 (omega arith) in
      let first : one_if (p x) ≡ 0 = ap one_if failed in
      let others = count_none xs d (λ k l. none (suc k) (omega arith)) in
      let e = count_cons x xs in
      omega arith

  -- where an element passes, one is
  count_some : (xs : List X) (k : ℕ) (d : X) → k < length xs → p (get_or xs k d) ≡ true →
      1 ≤ count_by p xs
  count_some [] k d l e = absurd (omega arith)
  count_some (x ∷ xs) zero d l e =
      let passed : p x ≡ true = e in
      let first : one_if (p x) ≡ 1 = ap one_if passed in
      let f = count_cons x xs in omega arith
  count_some (x ∷ xs) (suc k) d l e =
      let others = count_some xs k d (omega arith) e in
      let f = count_cons x xs in omega arith

  -- where two pass, two are
  count_two : (xs : List X) (i j : ℕ) (d : X) → i < j → j < length xs →
      p (get_or xs i d) ≡ true → p (get_or xs j d) ≡ true → 2 ≤ count_by p xs
  count_two [] i j d l m e f = absurd (omega arith)
  count_two (x ∷ xs) i zero d l m e f = absurd (omega arith)
  count_two (x ∷ xs) zero (suc j) d l m e f =
      let passed : p x ≡ true = e in
      let first : one_if (p x) ≡ 1 = ap one_if passed in
      let others = count_some xs j d (omega arith) f in
      let g = count_cons x xs in omega arith
  count_two (x ∷ xs) (suc i) (suc j) d l m e f =
      let others = count_two xs i j d (omega arith) (omega arith) e f in
      let g = count_cons x xs in omega arith

  -- where one element passes, it is the first that does
  one_place : (xs : List X) (d : X) → count_by p xs ≡ 1 → position_or_len p xs < length xs
  one_place xs d e = by (cases_lt (position_or_len p xs) (length xs))
    where
      by : (position_or_len p xs < length xs) ⊎ (length xs ≤ position_or_len p xs) →
          position_or_len p xs < length xs
      by (inl l) = l
      by (inr m) =
          let none =
          count_none xs d (λ k l. fails_before_first p xs k d (omega arith)) in
          absurd (omega arith)

  -- and no other does
  no_other : (xs : List X) (k : ℕ) (d : X) → count_by p xs ≡ 1 → k < length xs →
      p (get_or xs k d) ≡ true → position_or_len p xs ≡ k
  no_other xs k d e l f = by (cases_lt (position_or_len p xs) k)
    where
      by : (position_or_len p xs < k) ⊎ (k ≤ position_or_len p xs) → position_or_len p xs ≡ k
      by (inl m) =
          let first = passes_at_first p xs d (one_place xs d e) in
          let two = count_two xs (position_or_len p xs) k d m l first f in
          absurd (omega arith)
      by (inr m) = at_first (cases_lt k (position_or_len p xs))
        where
          at_first : (k < position_or_len p xs) ⊎ (position_or_len p xs ≤ k) →
              position_or_len p xs ≡ k
          at_first (inl n) = let fails = fails_before_first p xs k d n in absurd cc
          at_first (inr n) = omega arith

-- where no number passes, each fails
none_passes : (p : ℕ → Bool) (n k : ℕ) → position p (range_with_len 0 n) ≡ None → k < n →
    p k ≡ false
none_passes p n k e l =
    let long = length-range_with_len 0 n in
    let past : length (range_with_len 0 n) ≤ position_or_len p (range_with_len 0 n) =
    grind (arith, nat_tests, e) in
    let same : k ≡ 0 + k = omega arith in
    ap p (same ∙ sym (get_or-range_with_len 0 n k 0 l))
    ∙ fails_before_first p (range_with_len 0 n) k 0 (omega arith)

-- a cell's fault that isn't there
uncovered_none : (cell : Option ℕ) → option_map ScaleNotCover cell ≡ None → cell ≡ None
uncovered_none None e = refl
uncovered_none (Some cell) e = absurd cc

-- a measure has no fault, and the groups of its scale
made : (matrix : Design) (measure : Weighting) → IsMeasureOf matrix measure →
    (measure_fault matrix measure.scale measure.bases ≡ None)
    × (measure.groups ≡ groups_of matrix measure.scale)
made matrix measure is = by (measure_fault matrix measure.scale measure.bases) is.made
  where
    whole : Weighting
    whole = record {
      scale = measure.scale;
      groups = groups_of matrix measure.scale;
      bases = measure.bases;
    }

    by : (fault : Option MeasureFault) → unless_fault fault whole ≡ Ok measure →
        (fault ≡ None) × (measure.groups ≡ groups_of matrix measure.scale)
    by None e =
        let same : whole ≡ measure = cc in
        (refl, sym (ap (λ (m : Weighting). m.groups) same))
    by (Some fault) e = absurd cc

-- each cell has one group, the row that has it
pub groups_part : (matrix : Design) (measure : Weighting) → IsMeasureOf matrix measure →
    (rows : List ℕ) → measure.scale ≡ RowMargins rows →
    (cell : ℕ) → cell < length matrix.columns →
    (at measure.groups cell < length rows)
    × ((k : ℕ) → k < length rows →
    (at (numbered_row matrix (at rows k)) cell ≡ 1) ↔ (at measure.groups cell ≡ k))
groups_part matrix measure is rows scale cell l =
    let known = made matrix measure is in
    let p = has_cell matrix cell in
    let fixed =
    (or-none (scale_fault matrix measure.scale) _ known.0).0 in
    let covered =
    uncovered_none (uncovered matrix rows)
    (or-none (option_map BadScaleRow (find (λ n. not (is_group_row matrix n)) rows)) _
    (sym (ap (scale_fault matrix) scale) ∙ fixed)).1 in
    let once =
    none_passes (λ c. not (count_by (has_cell matrix c) rows == 1)) (length matrix.columns) cell
    covered l in
    let one : count_by p rows ≡ 1 = eqb-true (count_by p rows) 1 (grind (arith, once)) in
    let group : at measure.groups cell ≡ position_or_len p rows =
    ap (λ groups. at groups cell) (known.1 ∙ ap (groups_of matrix) scale)
    ∙ get_or-map-range_with_len (group_at matrix (RowMargins rows)) 0 (length matrix.columns)
    cell cell 0 l (omega arith) in (
      let first = one_place p rows 0 one in omega arith,
      λ k m. (
        (λ e. group ∙ no_other p rows k 0 one m (eq-eqb _ 1 e)),
        (λ e.
            let here : position_or_len p rows ≡ k = sym group ∙ e in
            eqb-true _ 1 (ap (λ j. p (at rows j)) (sym here)
            ∙ passes_at_first p rows 0 (one_place p rows 0 one))),
      ),
    )
