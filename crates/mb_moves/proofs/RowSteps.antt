-- Rows read and tested one after the other.
use Rattle.std.proofs.Common.{Bool, Err, List, None, Ok, Option, Result, Some, [], ap, arith, cond, false, length, refl, suc, true, ℕ, ℤ, ◌+◌, ◌++◌, ◌-◌, ◌<◌, ◌≡◌, ◌∙◌, ◌∷◌}
use Rattle.std.specs.Option.{option_or}
use Rattle.mb_tables.specs.Answers.{◌>>=◌}
use Rattle.mb_tables.specs.Rows.{rows_of}
use Rattle.mb_moves.proofs.RowsEndToEnd.{rows_of-front}
use Rattle.mb_moves.specs.loops.Reads.{in_front}
use Rattle.mb_moves.specs.Testing.{first_wrong, is_move}
use Rattle.mb_moves.specs.declared.fault.GridFault.{GridFault}

-- the first wrong row of one that was found before and of these rows, from this number on
abbrev either : List (List ℤ) → Option ℕ → ℕ → List (List ℤ) → Option ℕ
either matrix found number rows = option_or found (first_wrong matrix number rows)

-- a row and then further ones
either-more : (matrix : List (List ℤ)) (found : Option ℕ) (number : ℕ) (row : List ℤ)
    (rows : List (List ℤ)) →
    either matrix found number (row ∷ rows)
    ≡ either matrix (either matrix found number (row ∷ [])) (number + 1) rows
either-more matrix (Some before) number row rows = refl
either-more matrix None number row rows = by (is_move matrix row)
  where
    next : suc number ≡ number + 1
    next = omega arith

    by : (test : Bool) →
        cond test (first_wrong matrix (suc number) rows) (Some number)
        ≡ option_or (cond test None (Some number)) (first_wrong matrix (number + 1) rows)
    by true = ap (λ n. first_wrong matrix n rows) next
    by false = refl

-- one that was found before, and no row
either-none : (found : Option ℕ) → option_or found None ≡ found
either-none None = refl
either-none (Some before) = refl

module _ (matrix : List (List ℤ)) (width count : ℕ) where
  -- the first wrong row of all, where k rows are read, this one was found among them, and these
  -- entries are left
  abbrev pub found_on : ℕ → Option ℕ → Result (List ℤ) GridFault → Result (Option ℕ) GridFault
  found_on k found left =
      left >>= λ entries. Ok (either matrix found (k + 1) (rows_of width (count - k) entries))

  -- at first none is read
  pub found_on-none : (all : Result (List ℤ) GridFault) →
      (all >>= λ entries. Ok (first_wrong matrix 1 (rows_of width count entries)))
      ≡ found_on 0 None all
  found_on-none (Ok entries) =
      let whole : count ≡ count - 0 = omega arith in
      ap (λ n. Ok (first_wrong matrix 1 (rows_of width n entries))) whole
  found_on-none (Err fault) = refl

  -- a row is read and tested
  pub found_on-row : (k : ℕ) (found : Option ℕ) (row : List ℤ)
      (left : Result (List ℤ) GridFault) → k < count → length row ≡ width →
      found_on k found (in_front row left)
      ≡ found_on (k + 1) (either matrix found (k + 1) (row ∷ [])) left
  found_on-row k found row (Ok entries) more wide =
      let others = count - (k + 1) in
      let one : count - k ≡ suc others = omega arith in
      let test : List (List ℤ) → Result (Option ℕ) GridFault =
      λ cut. Ok (either matrix found (k + 1) cut) in
      ap (λ n. test (rows_of width n (row ++ entries))) one
      ∙ ap test (rows_of-front width others row entries wide)
      ∙ ap Ok (either-more matrix found (k + 1) row (rows_of width others entries))
  found_on-row k found row (Err fault) more wide = refl

  -- all are read
  pub found_on-all : (k : ℕ) (found : Option ℕ) → count ≡ k → found_on k found (Ok []) ≡ Ok found
  unfolding rows_of
  found_on-all k found e =
      let none : count - k ≡ 0 = omega arith in
      ap (λ n. Ok (either matrix found (k + 1) (rows_of width n []))) none
      ∙ ap Ok (either-none found)
