-- The rows that a tree of keys stands for.
use Rattle.std.specs.BTreeMap.{BTreeMap}
use Rattle.std.specs.FinMap.{from_entries}
use Rattle.std.specs.Prelude.{List, Vec, map, string_bytes, ℕ}
use Rattle.std.specs.declared.alloc.Global.{Global}
use Rattle.mb_outside.specs.Rows.{Key, Rows}
use Rattle.mb_outside.specs.declared.memory_keeper.RowKey.{RowKey}

-- a key as its kind and the bytes of its name
abbrev pub key_of : RowKey → Key
key_of key = (key.kind, string_bytes key.name)

-- an entry of the tree as a row
abbrev pub tree_row : RowKey × Vec ℕ Global → Key × List ℕ
tree_row entry = (key_of entry.0, entry.1.items)

-- the rows of the tree
abbrev pub tree_rows : BTreeMap RowKey (Vec ℕ Global) → Rows
tree_rows bodies = from_entries (map tree_row bodies.entries)
