-- The rows of the records of a text, one record after the other.
use Rattle.std.proofs.Common.{List, None, Ok, Option, Result, Some, [], ap, refl, subst, sym, ℕ, ◌+◌, ◌∙◌, ◌∷◌, ◌≡◌}
use Rattle.mb_data.specs.DatasetText.{Row, next_rows, rows_of}
use Rattle.mb_data.specs.HeaderText.{Columns}
use Rattle.mb_data.specs.declared.fault.DataFault.{DataFault}
use Rattle.mb_tables.specs.Answers.{IsRefused, ◌>>=◌}

-- a first step that is refused refuses the whole
pub refused_on : {A B : Type 0} (cause : Option DataFault) (says : Result A DataFault)
    (next : A → Result B DataFault) → IsRefused cause says → IsRefused cause (says >>= next)
refused_on None says next refused = tt
refused_on (Some fault) says next refused = rw refused refl

-- a record that is refused refuses the rows
pub record_refused : (cause : Option DataFault) (columns : Columns) (number : ℕ) (rows : List Row)
    (fields : List (List ℕ)) (left records : List (List (List ℕ)))
    (whole : Result (List Row) DataFault)
    → left ≡ fields ∷ records → rows_of columns number rows left ≡ whole
    → IsRefused cause (next_rows columns number rows fields) → IsRefused cause whole
unfolding rows_of
record_refused cause columns number rows fields left records whole is says refused =
    subst (IsRefused cause) (sym (ap (rows_of columns number rows) is) ∙ says)
    (refused_on cause (next_rows columns number rows fields)
    (λ more. rows_of columns (number + 1) more records) refused)

-- a record that is added goes on to the rest
pub record_added : (columns : Columns) (number : ℕ) (rows more : List Row)
    (fields : List (List ℕ)) (left records : List (List (List ℕ)))
    (whole : Result (List Row) DataFault)
    → left ≡ fields ∷ records → rows_of columns number rows left ≡ whole
    → next_rows columns number rows fields ≡ Ok more
    → rows_of columns (number + 1) more records ≡ whole
unfolding rows_of
record_added columns number rows more fields left records whole is says added =
    sym (rw added refl) ∙ sym (ap (rows_of columns number rows) is) ∙ says

-- nothing is left
pub rows_read : (columns : Columns) (number : ℕ) (rows : List Row)
    (left : List (List (List ℕ))) (whole : Result (List Row) DataFault)
    → left ≡ [] → rows_of columns number rows left ≡ whole → whole ≡ Ok rows
unfolding rows_of
rows_read columns number rows left whole is says =
    sym says ∙ ap (rows_of columns number rows) is
