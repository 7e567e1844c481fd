-- The monomials of starts are light: their weights are entries of the matrix.
use Rattle.std.proofs.Common.{List, [], ap, arith, inl, inr, length, subst, sym, ℕ, ◌++◌, ◌<◌, ◌∙◌, ◌≡◌, ◌≤◌, ◌⊎◌}
use Rattle.std.proofs.lemmas.List.{get_or_past}
use Rattle.std.proofs.lemmas.Option.{slice_get-get_or}
use Rattle.mb_certificate.specs.Valid.{of_cell, of_column}
use Rattle.mb_matrix.proofs.FillLaws.{margins-none, margins-unit}
use Rattle.mb_matrix.specs.Fiber.{margins}
use Rattle.mb_matrix.specs.Matrix.{Design, IsDesign, column_at}
use Rattle.mb_order.proofs.WeightLaws.{weight}
use Rattle.mb_order.specs.Weight.{IsLight, weights}
use Rattle.mb_tables.proofs.VectorLaws.{length-zeros, plus-comm, plus-zeros}
use Rattle.mb_tables.specs.Vectors.{at, plus, unit, zeros}

module _ (matrix : Design) (j : ℕ) (design : IsDesign matrix)
    (l : j < length matrix.columns) where
  abbrev column : List ℕ
  column = column_at matrix j

  -- the column is the margins of its cell, and has an entry for each
  unit-margins : (margins matrix.rows matrix.columns (unit (length matrix.columns) j) ≡ column)
      × (length column ≡ matrix.rows)
  unit-margins =
      margins-unit matrix.rows matrix.columns j column design.each
      (slice_get-get_or matrix.columns j [] l)

  -- each entry is small
  entry-small : (i : ℕ) → at column i ≤ 65535
  entry-small i =
      let cases : (i < length column) ⊎ (length column ≤ i) = grind arith in
      elim cases [
        | inl m ↦ (let small = design.small j [] l i 0 m in omega arith)
        | inr m ↦ (let past = get_or_past column i 0 m in omega arith)
      ]

  -- the margins' symbols of a column weigh what the column says
  pub column-light : IsLight matrix (of_column (length matrix.columns) column)
  column-light i =
      let d = matrix.rows in
      let n = length matrix.columns in
      let long = unit-margins.1 in
      let w : weights matrix (column ++ zeros n) ≡ column =
      weight d matrix.columns column (zeros n) design.each long
      ∙ ap (plus column) (margins-none d matrix.columns n design.each)
      ∙ plus-comm column (zeros d) ∙ plus-zeros d column (omega arith) in
      let f = ap (λ u. at u i) w in
      let small = entry-small i in
      omega arith

  -- and so does the cell's symbol
  pub cell-light : IsLight matrix (of_cell matrix j)
  cell-light i =
      let d = matrix.rows in
      let n = length matrix.columns in
      let long = unit-margins.1 in
      let w : weights matrix (zeros d ++ unit n j) ≡ column =
      weight d matrix.columns (zeros d) (unit n j) design.each (length-zeros d)
      ∙ ap (plus (zeros d)) unit-margins.0 ∙ plus-zeros d column (omega arith) in
      let f = ap (λ u. at u i) w in
      let small = entry-small i in
      omega arith

-- a monomial that is the one of a column is light, where the matrix is that of the code
pub column-is-light : (matrix now : Design) (j : ℕ) (m : List ℕ) → now ≡ matrix →
    IsDesign matrix → j < length matrix.columns →
    m ≡ of_column (length now.columns) (column_at now j) → IsLight matrix m
column-is-light matrix now j m e design l f =
    subst (IsLight matrix)
    (sym (f ∙ ap (λ (d : Design). of_column (length d.columns) (column_at d j)) e))
    (column-light matrix j design l)

-- and so is one of a cell
pub cell-is-light : (matrix now : Design) (j : ℕ) (m : List ℕ) → now ≡ matrix →
    IsDesign matrix → j < length matrix.columns → m ≡ of_cell now j → IsLight matrix m
cell-is-light matrix now j m e design l f =
    subst (IsLight matrix) (sym (f ∙ ap (λ (d : Design). of_cell d j) e))
    (cell-light matrix j design l)
