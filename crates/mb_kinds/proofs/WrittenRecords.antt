-- What is written of a record is read as the record.
use Rattle.std.proofs.Common.{All, List, None, Ok, Option, Result, Some, [], ap, append_assoc, arith, cond, length, map, pos, refl, true, ℕ, ℤ, ◌&&◌, ◌++◌, ◌+◌, ◌-◌, ◌<◌, ◌^◌, ◌∙◌, ◌∷◌, ◌≡◌, ◌≤◌, ◌≢◌}
use Rattle.std.proofs.lemmas.Bool.{eq-eqb}
use Rattle.std.proofs.lemmas.List.{get_or-map, length-map}
use Rattle.std.proofs.lemmas.List.Elements.{All-head, All-tail}
use Rattle.std.proofs.lemmas.List.Sums.{list_all-from_AllPass}
use Rattle.std.specs.Fmt.{decimal}
use Rattle.std.specs.List.{flat_map, join_with_byte, list_all}
use Rattle.std.specs.Option.{option_and_then}
use Rattle.mb_kinds.proofs.NumberItems.{entries_written}
use Rattle.mb_kinds.specs.RecordText.{row_in, rows_in as rows_from, whole_row}
use Rattle.mb_matrix.specs.Matrix.{is_design_entry}
use Rattle.mb_moves.proofs.RowsEndToEnd.{end_to_end}
use Rattle.mb_tables.specs.Answers.{◌>>=◌}
use Rattle.mb_text.proofs.ItemBytes.{are_items, decimals_are_items, items_again}
use Rattle.mb_text.proofs.RecordSteps.{step_on}
use Rattle.mb_text.proofs.SaidLines.{says_written}
use Rattle.mb_text.specs.Lines.{line, lines}
use Rattle.mb_text.specs.Plain.{each_of, plain_signed_of, size_at_most}
use Rattle.mb_text.specs.RecordLines.{says}
use Rattle.mb_matrix.proofs.MatrixOfRows.{small-is_entry}

-- so many entries up to 1,000
pub record IsRow (cells : ℕ) (row : List ℕ) : Type 0 where
  pub long : length row ≡ cells
  pub small : All (λ n. n ≤ 1000) row

-- a row is whole
row_is_whole : (cells : ℕ) (row : List ℕ) → IsRow cells row →
    whole_row cells (map pos row) ≡ Some (map pos row)
row_is_whole cells row is =
    ap (λ t. cond (t && list_all is_design_entry (map pos row)) (Some (map pos row)) None)
    (eq-eqb (length (map pos row)) cells (length-map row pos ∙ is.long))
    ∙ ap (λ t. cond t (Some (map pos row)) None)
    (list_all-from_AllPass is_design_entry (map pos row)
    (λ k d l.
    let m : k < length row = let e = length-map row pos in omega arith in
    ap is_design_entry (get_or-map pos row k 0 d m) ∙ small-is_entry _ (is.small k 0 m)))

-- the entries that items are
abbrev entries_in : List (List ℕ) → Option (List ℤ)
entries_in list = each_of (λ item. size_at_most (2 ^ 31 - 1) (plain_signed_of item)) list

-- the items of its line
row_items : (cells : ℕ) (row : List ℕ) → IsRow cells row → are_items (map decimal row) ≡ true
row_items cells row is =
    decimals_are_items row (λ k d l. let h = is.small k d l in omega arith)

-- its line is read as it
row_said : (cells : ℕ) (row : List ℕ) → 1 ≤ cells → IsRow cells row →
    row_in cells (join_with_byte 32 (map decimal row)) ≡ Some (map pos row)
row_said cells row some is =
    ap (λ list. option_and_then (whole_row cells) (entries_in list))
    (items_again (map decimal row) (filled row is.long) (row_items cells row is))
    ∙ ap (option_and_then (whole_row cells)) (entries_written row is.small)
    ∙ row_is_whole cells row is
  where
    filled : (row : List ℕ) → length row ≡ cells → map decimal row ≢ []
    filled [] long = absurd (omega arith)
    filled (n ∷ row) long = λ e. cc

-- rows that are written are read
pub rows_written : (cells number : ℕ) (rest : List ℕ) (rows : List (List ℕ)) → 1 ≤ cells →
    All (IsRow cells) rows →
    rows_from number cells (length rows)
    (lines (flat_map line (map (map decimal) rows) ++ rest))
    ≡ Ok (end_to_end (map (map pos) rows), lines rest)
unfolding rows_from
rows_written cells number rest [] some each = refl
rows_written cells number rest (row ∷ rows) some each =
    let is = All-head (IsRow cells) row rows each in
    let others = flat_map line (map (map decimal) rows) ++ rest in
    let next : List ℤ × List (List ℕ) → Result (List ℤ × List (List ℕ)) ℕ =
    λ first. rows_from (number + 1) cells (length rows) first.1 >>= λ more.
    Ok (first.0 ++ more.0, more.1) in
    step_on _ (map pos row, lines others) next _
    (ap (λ text. says number (row_in cells) (lines text))
    (append_assoc (line (map decimal row)) (flat_map line (map (map decimal) rows)) rest)
    ∙ says_written number (row_in cells) (map decimal row) others (map pos row)
    (row_items cells row is) (row_said cells row some is))
    (ap (λ (r : Result (List ℤ × List (List ℕ)) ℕ).
    r >>= λ more. Ok (map pos row ++ more.0, more.1))
    (rows_written cells (number + 1) rest rows some (All-tail (IsRow cells) row rows each)))
