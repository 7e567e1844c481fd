-- What a keeper over a database tells.
use Rattle.std.specs.Prelude.{IsTrue, None, Option, if◌then◌else◌}
use Rattle.mb_outside.specs.Rows.{Rows}
use Rattle.sqlite.specs.Held.{Held, state}
use Rattle.sqlite.specs.State.{HasCleanDisk}
use Rattle.sqlite.specs.Store.{Ghosts}
use Rattle.mb_keeper.specs.Known.{IsLasting, told}
use Rattle.mb_keeper.specs.declared.sql_keeper.SqlKeeper.{SqlKeeper}

-- the rows of the database, where the keeper knows them
abbrev pub kept : {S : Type 0} → (g : Ghosts S) → SqlKeeper S g → Option Rows
kept g keeper = if keeper.is_known then told (state g keeper.connection) else None

-- the database behind the keeper
abbrev pub behind : {S : Type 0} → (g : Ghosts S) → SqlKeeper S g → Held S
behind g keeper = keeper.connection

-- the database is open, and its disk has returned what was written
abbrev pub IsSound : {S : Type 0} → (g : Ghosts S) → SqlKeeper S g → Type 0
IsSound g keeper =
    HasCleanDisk (state g keeper.connection) × IsTrue (state g keeper.connection).is_open

-- the keeper tells its rows and goes on telling them
abbrev pub lasts : {S : Type 0} → (g : Ghosts S) → SqlKeeper S g → Type 0
lasts g keeper = IsTrue keeper.is_known × IsLasting g
