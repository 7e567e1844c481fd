-- Tables and the cells' exponents of monomials.
use Rattle.std.proofs.Common.{All, List, Some, [], arith, drop, false, length, length-drop, slice_get, suc, sum, sym, true, ℕ, ◌*◌, ◌+◌, ◌<◌, ◌∙◌, ◌∷◌, ◌≡◌, ◌≤◌}
use Rattle.std.proofs.lemmas.List.{get_or-drop}
use Rattle.std.proofs.lemmas.List.Elements.{All-head, All-tail}
use Rattle.std.proofs.lemmas.List.Sums.{sum_by-cons}
use Rattle.mb_certificate.proofs.LineFaults.{read-at}
use Rattle.mb_certificate.proofs.Reasons.{lists-same}
use Rattle.mb_certificate.specs.FirstFault.{are_same}
use Rattle.mb_checker.proofs.SameWeights.{lists-differ}
use Rattle.mb_checker.specs.loops.Walked.{HasSmallMargins}
use Rattle.mb_matrix.proofs.MarginBounds.{margins_at_most}
use Rattle.mb_matrix.specs.Limits.{largest_entry}
use Rattle.mb_matrix.specs.Matrix.{Design, IsDesign}
use Rattle.mb_order.specs.Limits.{largest_exponent}
use Rattle.mb_tables.proofs.VectorLaws.{same_places}
use Rattle.mb_tables.specs.Vectors.{at}

-- an exponent of a cell
pub cell-at : (d : ℕ) (list : List ℕ) (i : ℕ) → at (drop d list) i ≡ at list (d + i)
cell-at d list i = get_or-drop d list i 0

module _ (d : ℕ) (list table : List ℕ) (long : d + length table ≡ length list) where
  -- counts that are the cells' exponents are the table of these
  pub cells-are : ((i : ℕ) → i < length table → at table i ≡ at list (d + i)) →
      table ≡ drop d list
  cells-are h =
      same_places table (drop d list) (let a = length-drop d list in omega arith)
      (λ i l. h i l ∙ sym (cell-at d list i))

  -- and are told to be so
  pub cells-same : ((i : ℕ) → i < length table → at table i ≡ at list (d + i)) →
      true ≡ are_same table (drop d list)
  cells-same h = sym (lists-same table (drop d list) (cells-are h))

-- a count that differs is told to
pub cells-differ : (d : ℕ) (list table : List ℕ) (i x y : ℕ) → slice_get table i ≡ Some x →
    y ≡ at list (d + i) → (x ≡ y → ⊥) → false ≡ are_same table (drop d list)
cells-differ d list table i x y e f differ =
    lists-differ table (drop d list) i (λ g.
    differ (sym (read-at table i x 0 e) ∙ g ∙ cell-at d list i ∙ sym f))

-- counts that are small have a small sum
sum-small : (u : List ℕ) (most : ℕ) → All (λ x. x ≤ most) u → sum u ≤ most * length u
sum-small [] most h = omega arith
sum-small (x ∷ u) most h =
    let a = All-head (λ x. x ≤ most) x u h in
    let b = sum-small u most (All-tail (λ x. x ≤ most) x u h) in
    let e = sum_by-cons (λ n. n) x u in
    let f : most * suc (length u) ≡ most + most * length u = grind arith in
    omega arith

-- a table of small counts has small margins
pub margins-small : (matrix : Design) (u : List ℕ) → IsDesign matrix →
    length u ≡ length matrix.columns → All (λ x. x ≤ largest_exponent) u →
    HasSmallMargins matrix u
margins-small matrix u design e h k d l =
    let a = margins_at_most largest_entry matrix.rows matrix.columns u design.small k d l in
    let b = sum-small u largest_exponent h in
    let few = design.few_cells in
    omega arith
