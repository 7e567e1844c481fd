-- The array of the Hardy-Weinberg model.
use Rattle.std.proofs.Common.{All, List, Ok, ap, length, map, refl, sym, ℕ, ℤ, ◌*◌, ◌==◌, ◌∙◌, ◌≡◌}
use Rattle.std.proofs.lemmas.Bool.{eq-eqb}
use Rattle.std.proofs.lemmas.List.{length-map}
use Rattle.std.proofs.lemmas.List.FromFn.{length-map-range_with_len}
use Rattle.std.specs.List.{range_with_len}
use Rattle.mb_data.specs.CrossTable.{CrossTable}
use Rattle.mb_kinds.specs.Generators.{cell_count, model_on}
use Rattle.mb_kinds.specs.Kinds.{class_array, class_row, genotypes, hardy_weinberg, orders, so_or}
use Rattle.mb_kinds.specs.ModelText.{classes_at}
use Rattle.mb_kinds.specs.declared.kind_fault.KindFault.TheVariants.{CellCount}
use Rattle.mb_kinds.specs.loops.Placed.{end_to_end}
use Rattle.mb_kinds.proofs.Chains.{each_map, goes_on}
use Rattle.mb_matrix.specs.Measure.{Total}
use Rattle.mb_moves.proofs.RowsEndToEnd.{all_rows, array_of-end_to_end}
use Rattle.mb_tables.specs.Rows.{array_of}
use Rattle.toml.specs.Data.{Members}

-- each row is as wide as there are genotypes
classes_wide : (classes : ℕ)
    → All (λ row. length row ≡ length (genotypes classes))
    (map (class_row classes) (range_with_len 0 classes))
classes_wide classes =
    each_map (λ (row : List ℤ). length row ≡ length (genotypes classes)) (class_row classes)
    (range_with_len 0 classes) 0 (λ i. length-map (genotypes classes) _)

-- there are so many entries
pub classes_full : (classes cells : ℕ) (entries : List ℤ) → length (genotypes classes) ≡ cells
    → entries ≡ end_to_end (map (class_row classes) (range_with_len 0 classes))
    → length entries ≡ classes * cells
classes_full classes cells entries same is =
    ap length is
    ∙ all_rows classes (length (genotypes classes))
    (map (class_row classes) (range_with_len 0 classes))
    (length-map-range_with_len (class_row classes) 0 classes) (classes_wide classes)
    ∙ ap (λ n. classes * n) same

-- and they are those of the model
pub classes_made : (table : CrossTable) (members : Members) (classes cells : ℕ) (entries : List ℤ)
    (base : List ℕ) → classes_at members ≡ Ok classes → length (genotypes classes) ≡ cells
    → cells ≡ cell_count table → entries ≡ end_to_end
    (map (class_row classes) (range_with_len 0 classes))
    → base ≡ map orders (genotypes classes)
    → model_on (array_of cells classes entries) Total base ≡ hardy_weinberg table members
classes_made table members classes cells entries base has same count is bases =
    let array = ap (λ n. array_of n classes entries) (sym same)
    ∙ ap (array_of (length (genotypes classes)) classes) is
    ∙ array_of-end_to_end (class_array classes) classes (length (genotypes classes)) refl
    (length-map-range_with_len (class_row classes) 0 classes) (classes_wide classes) in
    ap (λ a. model_on a Total base) array
    ∙ ap (model_on (class_array classes) Total) bases
    ∙ sym (goes_on (classes_at members) classes
    (λ k. so_or (length (genotypes k) == cell_count table)
    (CellCount (length (genotypes k)) (cell_count table))
    (model_on (class_array k) Total (map orders (genotypes k)))) has
    ∙ ap (λ b. so_or b (CellCount (length (genotypes classes)) (cell_count table))
    (model_on (class_array classes) Total (map orders (genotypes classes))))
    (eq-eqb (length (genotypes classes)) (cell_count table) (same ∙ count)))
