-- Rows of a record text, read one after the other.
use Rattle.std.proofs.Common.{Err, List, Ok, Result, ap, append_assoc, append-nil, refl, suc, sym, zero, ℕ, ℤ, ◌++◌, ◌+◌, ◌∙◌, ◌≡◌}
use Rattle.mb_kinds.specs.RecordText.{row_in, rows_in}
use Rattle.mb_tables.specs.Answers.{◌>>=◌}
use Rattle.mb_text.specs.RecordLines.{says}

-- what was read stands in front of what is read then
abbrev pub with_front : List ℤ → Result (List ℤ × List (List ℕ)) ℕ →
    Result (List ℤ × List (List ℕ)) ℕ
with_front front (Ok read) = Ok (front ++ read.0, read.1)
with_front front (Err number) = Err number

-- what follows the next row
abbrev rest_of : ℕ → ℕ → ℕ → Result (List ℤ × List (List ℕ)) ℕ →
    Result (List ℤ × List (List ℕ)) ℕ
rest_of number cells count row =
    row >>= λ row.
    rows_in (number + 1) cells count row.1 >>= λ others.
    Ok (row.0 ++ others.0, others.1)

module _ (front : List ℤ) (number cells count left : ℕ) (pieces : List (List ℕ))
    (more : left ≡ suc count) where
  -- there is a next row
  next : with_front front (rows_in number cells left pieces)
      ≡ with_front front (rest_of number cells count (says number (row_in cells) pieces))
  unfolding rows_in
  next = ap (λ n. with_front front (rows_in number cells n pieces)) more

  -- one more row is read
  pub row_read : (row : List ℤ) (rest : List (List ℕ)) →
      says number (row_in cells) pieces ≡ Ok (row, rest) →
      with_front (front ++ row) (rows_in (number + 1) cells count rest)
      ≡ with_front front (rows_in number cells left pieces)
  row_read row rest e =
      by (rows_in (number + 1) cells count rest)
      ∙ sym (next ∙ ap (λ r. with_front front (rest_of number cells count r)) e)
    where
      by : (read : Result (List ℤ × List (List ℕ)) ℕ) →
          with_front (front ++ row) read
          ≡ with_front front (read >>= λ others. Ok (row ++ others.0, others.1))
      by (Ok others) = ap (λ entries. Ok (entries, others.1)) (append_assoc front row others.0)
      by (Err wrong) = refl

  -- the next row is wrong
  pub row_wrong : (wrong : ℕ) → says number (row_in cells) pieces ≡ Err wrong →
      with_front front (rows_in number cells left pieces) ≡ Err wrong
  row_wrong wrong e = next ∙ ap (λ r. with_front front (rest_of number cells count r)) e

-- no row is left
pub rows_read : (front : List ℤ) (number cells left : ℕ) (pieces : List (List ℕ)) → left ≡ zero →
    with_front front (rows_in number cells left pieces) ≡ Ok (front, pieces)
unfolding rows_in
rows_read front number cells left pieces none =
    ap (λ n. with_front front (rows_in number cells n pieces)) none
    ∙ ap (λ entries. Ok (entries, pieces)) (append-nil front)
