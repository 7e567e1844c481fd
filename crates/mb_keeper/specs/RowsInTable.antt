-- The rows that the table of records stands for.
use Rattle.std.specs.FinMap.{from_entries}
use Rattle.std.specs.List.{filter_map, list_all}
use Rattle.std.specs.Ordering.{eq_by_cmp, is_eq}
use Rattle.std.specs.Prelude.{Bool, List, None, Option, Some, [], false, is_some, not, pos, true, ℕ, ◌&&◌, ◌∷◌}
use Rattle.mb_outside.specs.Rows.{Key, Rows, key_cmp}
use Rattle.sqlite.specs.Order.{Row, value_cmp}
use Rattle.sqlite.specs.Tree.{rowid}
use Rattle.sqlite.specs.declared.types.Value.TheVariants.{Blob, Int, Text}

-- a row of the table, which is its number, kind, name and body, as key and body
abbrev pub entry : Row → Option (Key × List ℕ)
entry (Int id ∷ Int (pos kind) ∷ Text name ∷ Blob body ∷ []) = Some ((kind, name), body)
entry _ = None

-- the bodies by kind and name that the table has
abbrev pub rows_in : List Row → Rows
rows_in rows = from_entries (filter_map entry rows)

-- two rows have one key
abbrev pub same_key : Option (Key × List ℕ) → Option (Key × List ℕ) → Bool
same_key (Some a) (Some b) = eq_by_cmp key_cmp a.0 b.0
same_key _ _ = false

-- two rows share neither number nor key
abbrev pub are_apart : Row → Row → Bool
are_apart a b = not (is_eq (value_cmp (rowid a) (rowid b))) && not (same_key (entry a) (entry b))

-- each row has a kind, a name and a body, and no two rows share number or key
unfoldable pub are_kept : List Row → Bool
are_kept [] = true
are_kept (row ∷ rows) = is_some (entry row) && (list_all (are_apart row) rows && are_kept rows)
