-- What a text says, by its records.
use Rattle.std.proofs.Common.{Err, List, Ok, Option, [], ap, refl, subst, sym, ℕ, ◌∙◌, ◌∷◌, ◌≡◌}
use Rattle.mb_data.specs.DatasetText.{Row, dataset_from, dataset_of, dataset_under, rows_of, table_of, with_cells}
use Rattle.mb_data.specs.HeaderText.{Columns, header_of}
use Rattle.mb_data.specs.Records.{records_of}
use Rattle.mb_data.specs.declared.fault.DataFault.{DataFault}
use Rattle.mb_data.specs.declared.fault.DataFault.TheVariants.{Csv}
use Rattle.mb_tables.specs.Answers.{IsRefused}
use Rattle.mb_data.proofs.ReadRows.{refused_on}

-- a text without records
pub no_record : (text : List ℕ) → records_of text ≡ [] → dataset_of text ≡ Err (Csv 1)
unfolding dataset_of
no_record text none = ap dataset_from none

-- a header that is refused
pub header_refused : (text : List ℕ) (first : List (List ℕ)) (left : List (List (List ℕ)))
    (cause : Option DataFault) → records_of text ≡ first ∷ left
    → IsRefused cause (header_of first) → IsRefused cause (dataset_of text)
unfolding dataset_of
header_refused text first left cause are refused =
    subst (IsRefused cause) (sym (ap dataset_from are))
    (refused_on cause (header_of first) (λ columns. dataset_under columns left) refused)

-- a header that is accepted
pub header_read : (text : List ℕ) (first : List (List ℕ)) (left : List (List (List ℕ)))
    (columns : Columns) → records_of text ≡ first ∷ left → header_of first ≡ Ok columns
    → dataset_of text ≡ dataset_under columns left
unfolding dataset_of
header_read text first left columns are is = ap dataset_from are ∙ rw is refl

-- rows that are read
pub rows_said : (columns : Columns) (left : List (List (List ℕ))) (rows : List Row)
    → rows_of columns 2 [] left ≡ Ok rows
    → dataset_under columns left ≡ with_cells (table_of columns.factors rows)
rows_said columns left rows is = rw is refl
