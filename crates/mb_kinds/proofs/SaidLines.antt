-- What the lines of a record say, as they are written.
use Rattle.std.proofs.Common.{All, Bool, List, None, Ok, Option, Some, [], ap, arith, codes, cond, false, get_or, length, map, not, refl, true, ℕ, ◌&&◌, ◌<◌, ◌==◌, ◌^◌, ◌∙◌, ◌∷◌, ◌≡◌, ◌≤◌}
use Rattle.std.proofs.lemmas.Bool.{eq-eqb}
use Rattle.std.proofs.lemmas.Bool.Decides.{nat_tests}
use Rattle.std.proofs.lemmas.List.Elements.{All-from_recursion}
use Rattle.std.specs.Fmt.{decimal}
use Rattle.std.specs.List.{AllByRecursion, count_by, find, join_with_byte}
use Rattle.std.specs.Option.{is_none, option_and_then, option_map, option_or}
use Rattle.mb_kinds.specs.Record.{base_items, scale_items}
use Rattle.mb_kinds.specs.RecordText.{as_many, base_in, fixed_by, scale_in, scheme_in, sizes_in, two_sizes}
use Rattle.mb_matrix.proofs.FirstFaults.{is_size-true}
use Rattle.mb_matrix.proofs.FirstFound.{position_range-Some}
use Rattle.mb_matrix.specs.Faults.{is_size, unless_fault}
use Rattle.mb_matrix.specs.Matrix.{Design, IsDesign}
use Rattle.mb_matrix.specs.Measure.{IsMeasureOf, RowMargins, Scheme, Total, Weighting, base_fault, has_cell, is_group_row, rows_fault, scale_fault, uncovered}
use Rattle.mb_matrix.specs.declared.measure_fault.MeasureFault.{MeasureFault}
use Rattle.mb_matrix.specs.declared.measure_fault.MeasureFault.TheVariants.{BadScaleRow, ScaleNotCover}
use Rattle.mb_tables.proofs.OptionLaws.{or-none, unmapped}
use Rattle.mb_text.proofs.ItemBytes.{are_items, decimals_are_items, items_again}
use Rattle.mb_text.proofs.LineReaders.{numbers_after_written}
use Rattle.mb_text.proofs.NumberLists.{numbers_written}
use Rattle.mb_text.specs.LineForms.{after, numbers_after}

-- numbers up to 64 fit
two_fit : (rows cells : ℕ) → rows ≤ 64 → cells ≤ 64 → All (λ n. n < 2 ^ 32) (rows ∷ cells ∷ [])
two_fit rows cells l m =
    All-from_recursion (λ n. n < 2 ^ 32) (rows ∷ cells ∷ []) (omega arith, (omega arith, tt))

-- the line of the sizes has items
pub sizes_items : (rows cells : ℕ) → rows ≤ 64 → cells ≤ 64 →
    are_items (codes "matrix" ∷ decimal rows ∷ decimal cells ∷ []) ≡ true
sizes_items rows cells l m = decimals_are_items (rows ∷ cells ∷ []) (two_fit rows cells l m)

-- and says them
pub sizes_said : (rows cells : ℕ) → 1 ≤ rows → rows ≤ 64 → 1 ≤ cells → cells ≤ 64 →
    sizes_in (join_with_byte 32 (codes "matrix" ∷ decimal rows ∷ decimal cells ∷ []))
    ≡ Some (rows, cells)
sizes_said rows cells some few some_cells few_cells =
    ap (option_and_then two_sizes)
    (numbers_after_written (codes "matrix") (rows ∷ cells ∷ []) refl
    (record { some = omega arith; small = two_fit rows cells few few_cells }))
    ∙ ap (λ t. cond (t && is_size cells) (Some (rows, cells)) None) (is_size-true rows some few)
    ∙ ap (λ t. cond t (Some (rows, cells)) None) (is_size-true cells some_cells few_cells)

-- where no number fails a test, each passes the other way
none_found : {X : Type 0} (p : X → Bool) (xs : List X) → find p xs ≡ None →
    AllByRecursion (λ x. p x ≡ false) xs
none_found p [] e = tt
none_found {X} p (x ∷ xs) e = by (p x) refl e (none_found p xs)
  where
    by : (t : Bool) → p x ≡ t → cond t (Some x) (find p xs) ≡ None →
        (find p xs ≡ None → AllByRecursion (λ x. p x ≡ false) xs) →
        (p x ≡ false) × AllByRecursion (λ x. p x ≡ false) xs
    by true f g ih = absurd cc
    by false f g ih = (f, ih g)

-- a row of zeros and ones is one of the matrix
low_row : (matrix : Design) (n : ℕ) → not (is_group_row matrix n) ≡ false → n ≤ matrix.rows
low_row matrix n e = grind (arith, nat_tests, e)

-- so the numbers of rows are small
pub rows_fit : (matrix : Design) (rows : List ℕ) → IsDesign matrix →
    rows_fault matrix rows ≡ None → All (λ n. n < 2 ^ 32) rows
rows_fit matrix rows sound e k d l =
    let bad = unmapped BadScaleRow (find (λ n. not (is_group_row matrix n)) rows)
    (or-none (option_map BadScaleRow (find (λ n. not (is_group_row matrix n)) rows))
    (option_map ScaleNotCover (uncovered matrix rows)) e).0 in
    let group =
    All-from_recursion (λ n. not (is_group_row matrix n) ≡ false) rows
    (none_found (λ n. not (is_group_row matrix n)) rows bad) k d l in
    let low = low_row matrix (get_or rows k d) group in
    let few = sound.few_rows in
    omega arith

-- no rows cover no cell
pub no_rows : (matrix : Design) → IsDesign matrix → rows_fault matrix [] ≡ None → ⊥
no_rows matrix sound e =
    let none = unmapped ScaleNotCover (uncovered matrix [])
    (or-none (option_map BadScaleRow (find (λ n. not (is_group_row matrix n)) []))
    (option_map ScaleNotCover (uncovered matrix [])) e).1 in
    let first : uncovered matrix [] ≡ Some 0 =
    position_range-Some (λ cell. not (count_by (has_cell matrix cell) [] == 1))
    (length matrix.columns) 0 (let some = sound.some_cells in omega arith)
    (λ k l. absurd (omega arith)) refl in
    cc

-- the line of a scale has items
pub scale_are_items : (matrix : Design) (scale : Scheme) → IsDesign matrix →
    scale_fault matrix scale ≡ None → are_items (scale_items scale) ≡ true
scale_are_items matrix Total sound e = refl
scale_are_items matrix (RowMargins rows) sound e =
    decimals_are_items rows (rows_fit matrix rows sound e)

-- and says the scheme
scheme_said : (matrix : Design) (scale : Scheme) → IsDesign matrix →
    scale_fault matrix scale ≡ None →
    scheme_in (join_with_byte 32 (scale_items scale)) ≡ Some scale
scheme_said matrix Total sound e = refl
scheme_said matrix (RowMargins []) sound e = absurd (no_rows matrix sound e)
scheme_said matrix (RowMargins (n ∷ rows)) sound e =
    let small = rows_fit matrix (n ∷ rows) sound e in
    ap (λ list. option_map RowMargins
    (option_and_then (numbers_after (codes "rows")) (after (codes "scale") list)))
    (items_again (codes "scale" ∷ codes "rows" ∷ decimal n ∷ map decimal rows) (λ x. cc)
    (decimals_are_items (n ∷ rows) small))
    ∙ ap (option_map RowMargins) (numbers_written (n ∷ rows) small)

-- the scale on its matrix
pub scale_said : (matrix : Design) (scale : Scheme) → IsDesign matrix →
    scale_fault matrix scale ≡ None →
    scale_in matrix (join_with_byte 32 (scale_items scale)) ≡ Some scale
scale_said matrix scale sound e =
    ap (option_and_then (fixed_by matrix)) (scheme_said matrix scale sound e)
    ∙ fixed (scale_fault matrix scale) e
  where
    fixed : (fault : Option MeasureFault) → fault ≡ None →
        cond (is_none fault) (Some scale) None ≡ Some scale
    fixed None f = refl
    fixed (Some fault) f = absurd cc

-- a measure's scale has no fault
pub no_scale_fault : (matrix : Design) (measure : Weighting) → IsMeasureOf matrix measure →
    scale_fault matrix measure.scale ≡ None
no_scale_fault matrix measure is =
    by (scale_fault matrix measure.scale) (base_fault measure.bases) _ is.made
  where
    by : (first second : Option MeasureFault) (made : Weighting) →
        unless_fault (option_or first second) made ≡ Ok measure → first ≡ None
    by None second made e = refl
    by (Some fault) second made e = absurd cc

-- the line of the base says its numbers
pub base_said : (cells : ℕ) (bases : List ℕ) → 1 ≤ cells → length bases ≡ cells →
    All (λ n. n < 2 ^ 32) bases → base_in cells (join_with_byte 32 (base_items bases)) ≡ Some bases
base_said cells [] some long small = absurd (omega arith)
base_said cells (n ∷ bases) some long small =
    ap (option_and_then (as_many cells))
    (numbers_after_written (codes "base") (n ∷ bases) refl
    (record { some = omega arith; small = small }))
    ∙ ap (λ t. cond t (Some (n ∷ bases)) None) (eq-eqb (length (n ∷ bases)) cells long)
