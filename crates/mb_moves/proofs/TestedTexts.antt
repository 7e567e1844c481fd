-- What a whole text says of its rows, from what its entries say.
use Rattle.std.proofs.Common.{Err, List, None, Ok, Option, Result, Some, ap, eq-eqb, length, refl, sym, ℕ, ℤ, ◌*◌, ◌≡◌, ◌≢◌, ◌∙◌}
use Rattle.std.proofs.lemmas.Bool.{ne_eqb}
use Rattle.mb_tables.specs.Answers.{IsRefused, ◌>>=◌}
use Rattle.mb_tables.specs.Rows.{Rows, array_of, rows_of}
use Rattle.mb_moves.proofs.EntrySteps.{refused_on}
use Rattle.mb_tables.proofs.RowsOfEntries.{length-rows_of}
use Rattle.mb_moves.specs.GridText.{entries_after, moves_of}
use Rattle.mb_moves.specs.Testing.{first_wrong, tested_of, tested_text, verdict}
use Rattle.mb_moves.specs.loops.RowTests.{entries_checked, wrong_row}
use Rattle.mb_moves.specs.declared.fault.GridFault.{GridFault}
use Rattle.mb_moves.specs.declared.testing.Tested.{Tested}
use Rattle.mb_moves.specs.declared.testing.Tested.TheVariants.{Moves, NotAMove, WidthDiffers}

-- that all entries are there
abbrev checked : Result (List ℤ) GridFault → Result (Unit {0}) GridFault
checked all = all >>= λ entries. Ok tt

-- the answer from the number of the rows and the first wrong one
abbrev told : ℕ → Option ℕ → Tested
told rows None = Moves rows
told rows (Some row) = NotAMove row

-- it is the one from the rows themselves
verdict-told : (rows : List (List ℤ)) (count : ℕ) (first found : Option ℕ) →
    length rows ≡ count → first ≡ found → verdict rows first ≡ told count found
verdict-told rows count first None size e = ap (verdict rows) e ∙ ap Moves size
verdict-told rows count first (Some row) size e = ap (verdict rows) e

-- what is said of the rows, from all entries
said : Rows → ℕ → ℕ → Result (List ℤ) GridFault → Result Tested GridFault
said matrix rows cols all =
    all >>= λ entries. Ok (tested_of matrix (array_of cols rows entries))

module _ (matrix : Rows) (rows cols : ℕ) where
  -- it is what is said of the array
  said_of : (all : Result (List ℤ) GridFault) →
      ((all >>= λ entries. Ok (array_of cols rows entries))
      >>= λ moves. Ok (tested_of matrix moves))
      ≡ said matrix rows cols all
  unfolding said
  said_of (Ok entries) = refl
  said_of (Err fault) = refl

  -- the entries have a fault
  said_fault : {Y : Type 0} (make : List ℤ → Y) (all : Result (List ℤ) GridFault)
      (fault : GridFault) → (all >>= λ entries. Ok (make entries)) ≡ Err fault →
      said matrix rows cols all ≡ Err fault
  unfolding said
  said_fault make (Ok entries) fault e = absurd (cc)
  said_fault make (Err first) fault e = let same : first ≡ fault = cc in ap Err same

  -- another width
  said_wide : (all : Result (List ℤ) GridFault) → matrix.width ≢ cols →
      checked all ≡ Ok tt → said matrix rows cols all ≡ Ok (WidthDiffers cols)
  unfolding said
  said_wide (Ok entries) wide e = rw (ne_eqb matrix.width cols wide) refl
  said_wide (Err fault) wide e = absurd (cc)

  -- the same width
  said_same : (all : Result (List ℤ) GridFault) (found : Option ℕ) → cols ≡ matrix.width →
      (all >>= λ entries. Ok (first_wrong matrix.rows 1 (rows_of cols rows entries))) ≡ Ok found →
      said matrix rows cols all ≡ Ok (told rows found)
  unfolding said
  said_same (Ok entries) found same e =
      let size = length-rows_of cols rows entries in
      rw (eq-eqb matrix.width cols (sym same))
      (ap Ok (verdict-told (rows_of cols rows entries) rows _ found size (cc)))
  said_same (Err fault) found same e = absurd (cc)

-- the array of a text, from its sizes and the tokens after them
abbrev pub HasArray : List ℕ → ℕ → ℕ → List (List ℕ) → Type 0
HasArray text rows cols left =
    moves_of text
    ≡ (entries_after (rows * cols) 0 left >>= λ entries. Ok (array_of cols rows entries))

module _ (matrix : Rows) (text : List ℕ) (rows cols : ℕ) (left : List (List ℕ))
    (sizes : HasArray text rows cols left) where
  -- what the text says, from its entries
  from_entries :
      tested_text matrix text ≡ said matrix rows cols (entries_after (rows * cols) 0 left)
  from_entries =
      ap (λ (r : Result Rows GridFault). r >>= λ moves. Ok (tested_of matrix moves)) sizes
      ∙ said_of matrix rows cols (entries_after (rows * cols) 0 left)

  -- the first fault of the entries is that of the text
  pub text_fault : {Y : Type 0} (make : List ℤ → Y) (cause : Option GridFault) →
      IsRefused cause (entries_after (rows * cols) 0 left >>= λ entries. Ok (make entries)) →
      IsRefused cause (tested_text matrix text)
  text_fault make cause h =
      refused_on cause (entries_after (rows * cols) 0 left >>= λ entries. Ok (make entries))
      (tested_text matrix text) h
      (λ fault e. from_entries ∙ said_fault matrix rows cols make _ fault e)

  -- another width
  pub text_wide : matrix.width ≢ cols → entries_checked (rows * cols) left ≡ Ok tt →
      tested_text matrix text ≡ Ok (WidthDiffers cols)
  text_wide wide e = from_entries ∙ said_wide matrix rows cols _ wide e

  -- the same width, and each row is a move
  pub text_moves : cols ≡ matrix.width → wrong_row matrix.rows cols rows left ≡ Ok None →
      tested_text matrix text ≡ Ok (Moves rows)
  text_moves same e = from_entries ∙ said_same matrix rows cols _ None same e

  -- or one is none
  pub text_not_a_move : cols ≡ matrix.width → (row : ℕ) →
      wrong_row matrix.rows cols rows left ≡ Ok (Some row) →
      tested_text matrix text ≡ Ok (NotAMove row)
  text_not_a_move same row e = from_entries ∙ said_same matrix rows cols _ (Some row) same e
