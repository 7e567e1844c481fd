-- Lines of a record that were read are what is written of what they say.
use Rattle.std.proofs.Common.{All, Bool, List, None, Option, Some, [], ap, codes, cond, false, length, map, refl, subst, sym, true, ℕ, ℤ, ◌&&◌, ◌<◌, ◌==◌, ◌^◌, ◌∙◌, ◌∷◌, ◌≡◌}
use Rattle.std.proofs.lemmas.Bool.{eqb-true}
use Rattle.std.proofs.lemmas.Slice.Eq.{bytes_eq-Decides}
use Rattle.std.specs.Fmt.{decimal, signed_decimal}
use Rattle.std.specs.List.{list_all}
use Rattle.std.specs.Option.{is_none, option_and_then, option_map}
use Rattle.std.specs.Str.{bytes_eq}
use Rattle.mb_kinds.proofs.NumberItems.{entries_read}
use Rattle.mb_kinds.specs.Record.{base_items, scale_items}
use Rattle.mb_kinds.specs.RecordText.{as_many, base_in, dataset_in, fixed_by, row_in, scale_in, scheme_in, sizes_in, two_sizes, whole_row}
use Rattle.mb_matrix.specs.Faults.{is_size}
use Rattle.mb_matrix.specs.Matrix.{Design, is_design_entry}
use Rattle.mb_matrix.specs.Measure.{RowMargins, Scheme, Total, scale_fault}
use Rattle.mb_text.proofs.ItemBytes.{items_again}
use Rattle.mb_text.proofs.LineReaders.{after_read, and_then_read, name_reads, numbers_after_read}
use Rattle.mb_text.proofs.NumeralItems.{let_through}
use Rattle.mb_text.specs.LineForms.{after, numbers_after}
use Rattle.mb_text.specs.Lines.{items}
use Rattle.mb_text.specs.Name.{IsName}

-- the line of the dataset
pub dataset_read : (first name : List ℕ) → dataset_in first ≡ Some name →
    (items first ≡ codes "dataset" ∷ name ∷ []) × IsName name
dataset_read first name e = (name_reads (codes "dataset") refl).is_written first name e

-- two sizes
two_sizes_read : (numbers : List ℕ) (sizes : ℕ × ℕ) → two_sizes numbers ≡ Some sizes →
    numbers ≡ sizes.0 ∷ sizes.1 ∷ []
two_sizes_read [] sizes e = absurd cc
two_sizes_read (rows ∷ []) sizes e = absurd cc
two_sizes_read (rows ∷ cells ∷ n ∷ numbers) sizes e = absurd cc
two_sizes_read (rows ∷ cells ∷ []) sizes e =
    let both : (rows, cells) ≡ sizes =
    (let_through {A = ℕ × ℕ} (is_size rows && is_size cells) (rows, cells) sizes e).1 in
    ap (λ (p : ℕ × ℕ). p.0 ∷ p.1 ∷ []) both

-- the line of the sizes
pub sizes_read : (first : List ℕ) (sizes : ℕ × ℕ) → sizes_in first ≡ Some sizes →
    items first ≡ codes "matrix" ∷ decimal sizes.0 ∷ decimal sizes.1 ∷ []
sizes_read first sizes e =
    let step = and_then_read (numbers_after (codes "matrix") (items first)) two_sizes sizes e in
    (numbers_after_read (codes "matrix") (items first) step.0 step.1).0
    ∙ ap (λ numbers. codes "matrix" ∷ map decimal numbers) (two_sizes_read step.0 sizes step.2)

-- the line of a row
pub row_read_back : (cells : ℕ) (first : List ℕ) (row : List ℤ) → row_in cells first ≡ Some row →
    (items first ≡ map signed_decimal row) × (length row ≡ cells)
row_read_back cells first row e =
    let step = and_then_read _ (whole_row cells) row e in
    let passed =
    let_through (length step.0 == cells && list_all is_design_entry step.0) step.0 row step.2 in (
      entries_read (items first) step.0 step.1 ∙ ap (map signed_decimal) passed.1,
      sym (ap length passed.1) ∙ wide (length step.0) (list_all is_design_entry step.0) passed.0,
    )
  where
    wide : (n : ℕ) (t : Bool) → (n == cells && t) ≡ true → n ≡ cells
    wide n t h = by (n == cells) refl h
      where
        by : (s : Bool) → (n == cells) ≡ s → (s && t) ≡ true → n ≡ cells
        by true f g = eqb-true n cells f
        by false f g = absurd cc

-- the line of a scheme
scheme_read : (first : List ℕ) (scale : Scheme) → scheme_in first ≡ Some scale →
    items first ≡ scale_items scale
scheme_read first scale e = by (bytes_eq first (codes "scale all")) refl e
  where
    of_rows : (found : Option (List ℕ)) →
        ((rows : List ℕ) → found ≡ Some rows →
        items first ≡ codes "scale" ∷ codes "rows" ∷ map decimal rows) →
        option_map RowMargins found ≡ Some scale → items first ≡ scale_items scale
    of_rows None said f = absurd cc
    of_rows (Some rows) said f =
        let same : RowMargins rows ≡ scale = cc in said rows refl ∙ ap scale_items same

    by : (t : Bool) → bytes_eq first (codes "scale all") ≡ t →
        cond t (Some Total) (option_map RowMargins
        (option_and_then (numbers_after (codes "rows")) (after (codes "scale") (items first))))
        ≡ Some scale →
        items first ≡ scale_items scale
    by true t f =
        let same : Total ≡ scale = cc in
        ap items ((bytes_eq-Decides first (codes "scale all")).0 t)
        ∙ items_again (codes "scale" ∷ codes "all" ∷ []) (λ x. cc) refl
        ∙ ap scale_items same
    by false t f =
        of_rows
        (option_and_then (numbers_after (codes "rows")) (after (codes "scale") (items first)))
        (λ rows g.
        let step =
        and_then_read (after (codes "scale") (items first)) (numbers_after (codes "rows")) rows g in
        after_read (codes "scale") (items first) step.0 step.1
        ∙ ap (λ l. codes "scale" ∷ l)
        (numbers_after_read (codes "rows") step.0 rows step.2).0)
        f

-- the line of a scale
pub scale_read : (matrix : Design) (first : List ℕ) (scale : Scheme) →
    scale_in matrix first ≡ Some scale → items first ≡ scale_items scale
scale_read matrix first scale e =
    let step = and_then_read (scheme_in first) (fixed_by matrix) scale e in
    let passed = let_through (is_none (scale_fault matrix step.0)) step.0 scale step.2 in
    scheme_read first step.0 step.1 ∙ ap scale_items passed.1

-- the line of the base
pub base_read : (cells : ℕ) (first bases : List ℕ) → base_in cells first ≡ Some bases →
    (items first ≡ base_items bases) × (length bases ≡ cells) × All (λ n. n < 2 ^ 32) bases
base_read cells first bases e =
    let step = and_then_read (numbers_after (codes "base") (items first)) (as_many cells) bases e in
    let passed = let_through (length step.0 == cells) step.0 bases step.2 in
    let found = numbers_after_read (codes "base") (items first) step.0 step.1 in (
      found.0 ∙ ap base_items passed.1,
      sym (ap length passed.1) ∙ eqb-true (length step.0) cells passed.0,
      subst (λ list. All (λ n. n < 2 ^ 32) list) passed.1 found.1.small,
    )
