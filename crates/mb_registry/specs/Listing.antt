-- The list of all records.
use Rattle.std.specs.FinMap.{get}
use Rattle.std.specs.Fmt.{decimal}
use Rattle.std.specs.List.{flat_map}
use Rattle.std.specs.Option.{ok_or, option_map}
use Rattle.std.specs.Prelude.{Err, List, Ok, [], codes, if◌then◌else◌, length, ℕ, ◌++◌, ◌∷◌}
use Rattle.mb_outside.specs.Rows.{Rows, names_of}
use Rattle.mb_registry.specs.Faults.{Answer}
use Rattle.mb_registry.specs.Kinds.{key_of, kind_number, kind_word}
use Rattle.mb_registry.specs.declared.fault.RegistryFault.TheVariants.{BadRecord}
use Rattle.mb_registry.specs.declared.kinds.Kind.{Kind}
use Rattle.mb_registry.specs.declared.kinds.Kind.TheVariants.{Analysis, Basis, Dataset, Model}
use Rattle.mb_registry.specs.declared.listing.Listed.{Listed}
use Rattle.mb_tables.specs.Answers.{◌>>=◌}
use Rattle.mb_text.specs.Lines.{line}
use Rattle.mb_text.specs.Name.{is_name}

-- a kind, a name, and the length of the body
abbrev pub listed_as : Kind → List ℕ → List ℕ → Listed
listed_as kind name body = record { kind = kind; name = name; bytes = length body }

-- the row of a listed name, which has to be a name
abbrev pub listed_row : Kind → List ℕ → Rows → Answer Listed
listed_row kind name rows =
    if is_name name
    then ok_or (option_map (listed_as kind name) (get rows (key_of kind name)))
    (BadRecord kind name)
    else Err (BadRecord kind name)

-- the rows of these names
unfoldable pub listed_rows : Kind → List (List ℕ) → Rows → Answer (List Listed)
listed_rows kind [] rows = Ok []
listed_rows kind (name ∷ names) rows =
    listed_row kind name rows >>= λ first.
    listed_rows kind names rows >>= λ others.
    Ok (first ∷ others)

-- the rows of a kind, by name
abbrev pub rows_of_kind : Kind → Rows → Answer (List Listed)
rows_of_kind kind rows = listed_rows kind (names_of (kind_number kind) rows) rows

-- the rows of these kinds
unfoldable pub rows_of_kinds : List Kind → Rows → Answer (List Listed)
rows_of_kinds [] rows = Ok []
rows_of_kinds (kind ∷ kinds) rows =
    rows_of_kind kind rows >>= λ first.
    rows_of_kinds kinds rows >>= λ others.
    Ok (first ++ others)

-- the four kinds in order
abbrev pub all_kinds : List Kind
all_kinds = Dataset ∷ Model ∷ Basis ∷ Analysis ∷ []

-- all rows, by kind and then by name
abbrev pub listed_of : Rows → Answer (List Listed)
listed_of rows = rows_of_kinds all_kinds rows

-- the items of the line of a row
abbrev pub listed_items : Listed → List (List ℕ)
listed_items row = kind_word row.kind ∷ row.name ∷ decimal row.bytes ∷ []

-- the printed list: how many records there are, and a line for each
abbrev pub list_text : List Listed → List ℕ
list_text listed =
    line (codes "records" ∷ decimal (length listed) ∷ [])
    ++ flat_map (λ row. line (listed_items row)) listed
