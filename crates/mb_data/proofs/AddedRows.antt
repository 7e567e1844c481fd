-- What a record adds to the rows, or its fault.
use Rattle.std.proofs.Common.{Err, List, None, Ok, Option, Some, [], ap, append-nil, arith, drop, false, if◌then◌else◌, inl, inr, length, min, nat_le, refl, suc, sym, take, true, zero, ℕ, ◌+◌, ◌++◌, ◌∙◌, ◌∷◌, ◌≡◌}
use Rattle.std.specs.List.{list_all, remove}
use Rattle.std.specs.Option.{IsSome}
use Rattle.std.specs.Str.{is_utf8}
use Rattle.std.proofs.lemmas.Bool.{cases_Bool, leb-false, leb-true, lt-leb}
use Rattle.std.proofs.lemmas.List.{drop_all, take_all}
use Rattle.std.proofs.lemmas.List.Sums.{sum_by_push}
use Rattle.mb_data.specs.CrossTable.{counted}
use Rattle.mb_data.specs.DatasetText.{Row, entry_by_rows, next_rows, row_of, total_of, with_row}
use Rattle.mb_data.specs.HeaderText.{Columns}
use Rattle.mb_data.specs.declared.entry.Entry.{Entry}
use Rattle.mb_data.specs.declared.entry.Entry.TheVariants.{Count, StructuralZero}
use Rattle.mb_data.specs.declared.fault.DataFault.TheVariants.{Repeated, TotalTooLarge}
use Rattle.mb_data.specs.loops.CappedEntries.{capped_entry}
use Rattle.mb_data.proofs.HeaderSteps.{failed, passed}
use Rattle.mb_data.proofs.KeyLaws.{and_left, and_right}

-- the rows with that of a record
pub step_is : (columns : Columns) (number : ℕ) (rows : List Row)
    (fields : List (List ℕ)) (row : Row)
    → row_of columns number fields ≡ Ok row
    → next_rows columns number rows fields ≡ with_row number rows row
step_is columns number rows fields row is = rw is refl

-- a row whose levels have an entry is a repeat
pub repeat_refused : (number : ℕ) (rows : List Row) (row : Row)
    (found : Option Entry) → IsSome found
    → found ≡ entry_by_rows rows row.levels → with_row number rows row ≡ Err (Repeated number)
repeat_refused number rows row None some is = absurd (cc some)
repeat_refused number rows row (Some entry) some is = rw (sym is) refl

-- a new row
new_row : (number : ℕ) (rows : List Row) (row : Row) → entry_by_rows rows row.levels ≡ None
    → with_row number rows row
    ≡ (if nat_le (total_of rows + counted row.entry) 1000000 then Ok (rows ++ row ∷ [])
    else Err TotalTooLarge)
new_row number rows row new =
    rw (new, sum_by_push (λ (row : Row). counted row.entry) rows row) refl

-- cutting a count changes nothing of whether the total is too large
cut_alike : (total : ℕ) (entry : Entry)
    → nat_le (total + counted (capped_entry entry)) 1000000 ≡ nat_le (total + counted entry) 1000000
cut_alike total (Count count) = elim (cases_Bool (nat_le count 1000000)) [
  | inl small ↦
      ap (λ n. nat_le (total + n) 1000000)
      (let e : min count 1000001 ≡ count = omega (arith, leb-true count 1000000 small) in e)
  | inr large ↦
      let past = leb-false count 1000000 large in
      lt-leb (total + min count 1000001) 1000000 (omega (arith, past))
      ∙ sym (lt-leb (total + count) 1000000 (omega (arith, past)))
]
cut_alike total StructuralZero = refl

-- an entry within the total isn't cut
uncut : (total : ℕ) (entry : Entry) → nat_le (total + counted entry) 1000000 ≡ true
    → capped_entry entry ≡ entry
uncut total (Count count) within =
    ap (λ n. Count n)
    (let e : min count 1000001 ≡ count =
    omega (arith, leb-true (total + count) 1000000 within) in e)
uncut total StructuralZero within = refl

-- the answer to a new row: its entry, cut, was added to the total, or was too much
pub total_refused : (number total : ℕ) (rows : List Row) (row : Row) (entry : Entry)
    → entry_by_rows rows row.levels ≡ None → total ≡ total_of rows
    → entry ≡ capped_entry row.entry
    → None ≡ (if nat_le (total + counted entry) 1000000 then Some (total + counted entry) else None)
    → with_row number rows row ≡ Err TotalTooLarge
total_refused number total rows row entry new is cut none =
    let over = failed (nat_le (total + counted entry) 1000000) (total + counted entry) none in
    let all : nat_le (total_of rows + counted row.entry) 1000000 ≡ false =
    sym (ap (λ n. nat_le (n + counted row.entry) 1000000) is)
    ∙ sym (cut_alike total row.entry)
    ∙ ap (λ (e : Entry). nat_le (total + counted e) 1000000) (sym cut) ∙ over in
    new_row number rows row new ∙ rw all refl

-- a row that is added, with an entry that isn't cut
pub row_added : (number total more : ℕ) (rows : List Row) (row : Row) (entry : Entry)
    → entry_by_rows rows row.levels ≡ None → total ≡ total_of rows
    → entry ≡ capped_entry row.entry
    → Some more
    ≡ (if nat_le (total + counted entry) 1000000 then Some (total + counted entry) else None)
    → (with_row number rows row ≡ Ok (rows ++ row ∷ []))
    × (entry ≡ row.entry) × (more ≡ total + counted row.entry)
row_added number total more rows row entry new is cut added =
    let fact = passed (nat_le (total + counted entry) 1000000) more (total + counted entry) added in
    let within : nat_le (total + counted row.entry) 1000000 ≡ true =
    sym (cut_alike total row.entry)
    ∙ ap (λ (e : Entry). nat_le (total + counted e) 1000000) (sym cut) ∙ fact.0 in
    let all : nat_le (total_of rows + counted row.entry) 1000000 ≡ true =
    sym (ap (λ n. nat_le (n + counted row.entry) 1000000) is) ∙ within in
    let same : entry ≡ row.entry = cut ∙ uncut total row.entry within in (
      new_row number rows row new ∙ rw all refl,
      same,
      fact.1 ∙ ap (λ (e : Entry). total + counted e) same,
    )

-- the levels of a record of texts are texts
pub levels_are_texts : (fields : List (List ℕ)) (place : ℕ) → list_all is_utf8 fields ≡ true
    → list_all is_utf8 (remove fields place) ≡ true
levels_are_texts [] zero all = refl
levels_are_texts [] (suc place) all = refl
levels_are_texts (field ∷ fields) zero all =
    and_right (is_utf8 field) (list_all is_utf8 fields) all
levels_are_texts (field ∷ fields) (suc place) all =
    rw (and_left (is_utf8 field) (list_all is_utf8 fields) all)
    (levels_are_texts fields place (and_right (is_utf8 field) (list_all is_utf8 fields) all))

-- a list that was lent whole and given back as long as it was
pub given_back : {X : Type 0} (old new : List X) (n : ℕ) → length old ≡ n → length new ≡ n
    → take n (new ++ drop (length new) old) ≡ new
given_back old new n old_is new_is =
    ap (λ rest. take n (new ++ rest)) (drop_all (length new) old (omega (arith, old_is, new_is)))
    ∙ ap (take n) (append-nil new) ∙ take_all n new (omega (arith, new_is))
