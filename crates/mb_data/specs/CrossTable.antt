-- Cross-classified tables: factors with levels, and an entry for each combination of levels.
use Rattle.std.specs.Prelude.{List, None, Option, Some, [], length, map, ℕ, ◌%◌, ◌*◌, ◌/◌, ◌∷◌}
use Rattle.std.specs.List.{filter, filter_map, range_with_len, slice_index_or}
use Rattle.std.specs.Option.{is_some}
use Rattle.mb_data.specs.declared.entry.Entry.{Entry}
use Rattle.mb_data.specs.declared.entry.Entry.TheVariants.{Count, StructuralZero}

-- the factors by name, the levels of each by name, and the entry of each combination of levels
pub record CrossTable : Type 0 where
  pub factors : List (List ℕ)
  pub levels : List (List (List ℕ))
  pub entries : List Entry

-- how many levels each factor has
abbrev pub sizes : List (List (List ℕ)) → List ℕ
sizes levels = map length levels

-- how many combinations there are of so many levels of each factor
unfoldable pub combinations : List ℕ → ℕ
combinations [] = 1
combinations (size ∷ sizes) = size * combinations sizes

-- the level of each factor in the combination of this number, from 0: the first factor is slowest
unfoldable pub combination : List ℕ → ℕ → List ℕ
combination [] k = []
combination (size ∷ sizes) k =
    k / combinations sizes ∷ combination sizes (k % combinations sizes)

-- the names of these levels, one of each factor
unfoldable pub named : List (List (List ℕ)) → List ℕ → List (List ℕ)
named (names ∷ levels) (place ∷ places) = slice_index_or names place [] ∷ named levels places
named _ _ = []

-- the count of a cell; a structural zero is none
abbrev pub count_in : Entry → Option ℕ
count_in (Count count) = Some count
count_in StructuralZero = None

-- the counts of the cells, in the order of the combinations
abbrev pub counts : List Entry → List ℕ
counts entries = filter_map count_in entries

-- the numbers of the combinations that are cells, in order
abbrev pub cell_numbers : List Entry → List ℕ
cell_numbers entries =
    filter (λ k. is_some (count_in (slice_index_or entries k StructuralZero)))
    (range_with_len 0 (length entries))

-- what an entry adds to the total
abbrev pub counted : Entry → ℕ
counted (Count count) = count
counted StructuralZero = 0
