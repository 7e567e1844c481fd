-- A dataset of what was gathered.
use Rattle.std.proofs.Common.{Err, List, Ok, Option, ap, arith, false, length, nat_le, refl, sym, true, ℕ, ◌==◌, ◌∙◌, ◌≡◌, ◌≢◌}
use Rattle.std.proofs.lemmas.Bool.{le-leb}
use Rattle.std.proofs.lemmas.List.FromFn.{length-map-range_with_len}
use Rattle.mb_data.specs.CrossTable.{CrossTable, combination, combinations, counts, named, sizes}
use Rattle.mb_data.specs.Dataset.{IsDataset}
use Rattle.mb_data.specs.DatasetText.{Row, entries_of, entry_in, table_of, with_cells}
use Rattle.mb_data.specs.declared.entry.Entry.{Entry}
use Rattle.mb_data.specs.declared.fault.DataFault.TheVariants.{NoCell}
use Rattle.mb_data.specs.loops.Gathers.{Gathers}
use Rattle.mb_data.specs.loops.Headers.{IsHeader}
use Rattle.mb_data.specs.loops.Totals.{IsFilled}
use Rattle.mb_data.proofs.SoundLevels.{gathered_sound}

-- the table of these parts
abbrev pub table : List (List ℕ) → List (List (List ℕ)) → List Entry → CrossTable
table factors levels entries = record { factors = factors; levels = levels; entries = entries }

-- it is the one of the rows
pub table_is : (factors : List (List ℕ)) (rows : List Row) (levels : List (List (List ℕ)))
    (kept : List ℕ → Option Entry) (total : ℕ) (entries : List Entry)
    → Gathers (length factors) rows levels kept total → entries ≡ entries_of rows levels
    → table_of factors rows ≡ table factors levels entries
table_is factors rows levels kept total entries is are =
    ap (λ list. table factors list (entries_of rows list)) (sym is.levels_are)
    ∙ ap (λ list. table factors levels list) (sym are)

-- no cell
pub no_cell : (factors : List (List ℕ)) (rows : List Row) (levels : List (List (List ℕ)))
    (kept : List ℕ → Option Entry) (total : ℕ) (entries : List Entry)
    → Gathers (length factors) rows levels kept total → entries ≡ entries_of rows levels
    → length (counts entries) ≡ 0 → with_cells (table_of factors rows) ≡ Err NoCell
no_cell factors rows levels kept total entries is are none =
    ap with_cells (table_is factors rows levels kept total entries is are) ∙ rw none refl

-- a dataset
pub is_dataset : (factors : List (List ℕ)) (rows : List Row) (levels : List (List (List ℕ)))
    (kept : List ℕ → Option Entry) (total cells counted : ℕ) (entries : List Entry)
    → IsHeader factors → Gathers (length factors) rows levels kept total
    → entries ≡ entries_of rows levels → IsFilled entries cells counted → (cells == 0) ≡ false
    → IsDataset (table factors levels entries) cells counted
is_dataset factors rows levels kept total cells counted entries header is are filled some =
    let other : cells ≢ 0 = λ none. absurd (cc (sym some ∙ ap (λ n. n == 0) none)) in
    record {
      table_is = record {
        some_factors = header.some;
        header = header.header;
        each_factor = is.wide;
        apart = λ k. (gathered_sound (length factors) rows levels kept total is k).0;
        texts = λ k. (gathered_sound (length factors) rows levels kept total is k).1;
        full =
            ap (λ (list : List Entry). length list) are
            ∙ length-map-range_with_len
            (λ k. entry_in rows (named levels (combination (sizes levels) k))) 0
            (combinations (sizes levels));
        some_cells = omega (arith, other, filled.cells_are);
        few_cells = omega (arith, filled.few, filled.cells_are);
        total = omega (arith, filled.small, filled.total_is);
      };
      cells_are = filled.cells_are;
      total_is = filled.total_is;
    }

-- its text says it
pub dataset_said : (factors : List (List ℕ)) (rows : List Row) (levels : List (List (List ℕ)))
    (kept : List ℕ → Option Entry) (total cells counted : ℕ) (entries : List Entry)
    → Gathers (length factors) rows levels kept total → entries ≡ entries_of rows levels
    → IsFilled entries cells counted → (cells == 0) ≡ false
    → with_cells (table_of factors rows) ≡ Ok (table factors levels entries)
dataset_said factors rows levels kept total cells counted entries is are filled some =
    let number = length (counts entries) in
    let more : (number == 0) ≡ false = ap (λ n. n == 0) (sym filled.cells_are) ∙ some in
    let few : nat_le number 64 ≡ true = le-leb number 64
    (omega (arith, filled.few, filled.cells_are)) in
    ap with_cells (table_is factors rows levels kept total entries is are) ∙ rw (more, few) refl
