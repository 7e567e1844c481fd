-- The entries that records gave, by the keys of their levels.
use Rattle.std.specs.HashMap.{get_by}
use Rattle.std.specs.Prelude.{List, Option, ℕ}
use Rattle.std.specs.Str.{bytes_eq}
use Rattle.mb_data.specs.declared.entry.Entry.{Entry}
use Rattle.mb_data.specs.declared.rows.Rows.{Rows}

-- the entry of the levels of this key, if a record gave one
abbrev pub entry_at : Rows → List ℕ → Option Entry
entry_at rows key = get_by (λ stored. bytes_eq key stored.items) rows.entries
