-- What is known of a database of records, as long as its connection is open and its disk has
-- returned what was written.
use Rattle.std.specs.Coded.{Coded-set, ×_prop, →_prop}
use Rattle.std.specs.Prelude.{Bool, IsTrue, None, Option, Some, [], false, if◌then◌else◌, true, ◌&&◌, ◌≡◌}
use Rattle.mb_outside.specs.Rows.{Rows}
use Rattle.sqlite.specs.Effect.{Database}
use Rattle.sqlite.specs.Held.{Held, state}
use Rattle.sqlite.specs.State.{HasCleanDisk, State}
use Rattle.sqlite.specs.Store.{Ghosts}
use Rattle.sqlite_schema.specs.contracts.schema.Schema.{the_row}
use Rattle.mb_keeper.specs.RecordTable.{records_schema}
use Rattle.mb_keeper.specs.RowsInTable.{are_kept, rows_in}
use mathlib.Core.Bool.{Bool-set}

-- the database is the one table, and its rows are kept as rows of records
abbrev pub IsOurs : Database → Type 0
IsOurs db = (db.schema ≡ records_schema) × (are_kept (db.trees 0) ≡ true)

-- the database is ours, and no transaction is open
abbrev pub Knows : State → Type 0
Knows s = HasCleanDisk s → IsTrue s.is_open → (s.in_transaction ≡ false) × IsOurs s.now

-- the table was made, and has no row
abbrev pub IsMade : State → Type 0
IsMade s = HasCleanDisk s → IsTrue s.is_open
    → (s.in_transaction ≡ false) × IsOurs s.now × (s.now.trees 0 ≡ [])

-- a transaction is open, and its rows are these
abbrev pub Holds : State → Rows → Type 0
Holds s rows = HasCleanDisk s → IsTrue s.is_open
    → (s.in_transaction ≡ true) × IsOurs s.now × (rows_in (s.now.trees 0) ≡ rows)

-- outside a transaction nothing waits for a commit
abbrev pub IsLevel : State → Type 0
IsLevel s = s.in_transaction ≡ false → IsTrue s.is_open → s.now ≡ s.committed

-- the rows, where the disk has returned what was written and the connection is open
abbrev pub told : State → Option Rows
told s = if s.is_clean && s.is_open then Some (rows_in (s.now.trees 0)) else None

-- the store never shuts, and its disk returns what was written, as memory does
abbrev pub IsLasting : {S : Type 0} → Ghosts S → Type 0
IsLasting {S} g = (c : Held S) → IsTrue (state g c).is_clean × IsTrue (state g c).is_open

-- what is known under a test has at most one proof
pub known_prop : (is_known : Bool) (s : State) → IsProp (IsTrue is_known → Knows s)
known_prop is_known s =
    →_prop (→_prop (→_prop (×_prop (Bool-set s.in_transaction false)
    (×_prop (Coded-set the_row.coded s.now.schema records_schema)
    (Bool-set (are_kept (s.now.trees 0)) true)))))
