-- The header of a dataset's text.
use Rattle.std.specs.List.{list_all, list_any, position, remove, starts_with}
use Rattle.std.specs.Prelude.{Bool, Err, List, None, Ok, Option, Result, Some, [], codes, false, if◌then◌else◌, length, nat_eq, not, ℕ, ◌&&◌, ◌++◌, ◌==◌, ◌||◌, ◌∷◌}
use Rattle.std.specs.Str.{bytes_eq, is_utf8}
use Rattle.mb_data.specs.declared.fault.DataFault.{DataFault}
use Rattle.mb_data.specs.declared.fault.DataFault.TheVariants.{Csv, NoCountColumn, NoFactor, Repeated}
use Rattle.mb_tables.specs.Answers.{◌>>=◌}

-- the name of the column of counts
abbrev pub count_word : List ℕ
count_word = codes "count"

-- the byte order mark
abbrev pub order_mark : List ℕ
order_mark = 0xEF ∷ 0xBB ∷ 0xBF ∷ []

-- whether a field is text that doesn't begin with a byte order mark
abbrev pub is_header_field : List ℕ → Bool
is_header_field field = is_utf8 field && not (starts_with nat_eq field order_mark)

-- the fields, where each is such text
abbrev pub header_fields : List (List ℕ) → Result (List (List ℕ)) DataFault
header_fields fields = if list_all is_header_field fields then Ok fields else Err (Csv 1)

-- whether a field is among those before it
unfoldable pub has_repeat : List (List ℕ) → List (List ℕ) → Bool
has_repeat earlier [] = false
has_repeat earlier (field ∷ fields) =
    list_any (bytes_eq field) earlier || has_repeat (earlier ++ field ∷ []) fields

-- the factors in their order, and the place of the column of counts among the fields
pub record Columns : Type 0 where
  pub factors : List (List ℕ)
  pub place : ℕ

-- the columns of these fields, where `count` stands at a place
abbrev pub columns_at : List (List ℕ) → Option ℕ → Result Columns DataFault
columns_at fields None = Err NoCountColumn
columns_at fields (Some place) =
    if length fields == 1 then Err NoFactor
    else Ok (record { factors = remove fields place; place = place })

-- the columns of fields that all differ
abbrev pub columns_of : List (List ℕ) → Result Columns DataFault
columns_of fields =
    if has_repeat [] fields then Err (Repeated 1)
    else columns_at fields (position (λ field. bytes_eq field count_word) fields)

-- the columns that a header says, or its first fault
abbrev pub header_of : List (List ℕ) → Result Columns DataFault
header_of fields = header_fields fields >>= λ names. columns_of names
