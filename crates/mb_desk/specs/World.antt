-- What the desk works over, and the one change of a command.
use Rattle.std.specs.Coded.{Coded, coded_list, coded_ℕ, coded×}
use Rattle.std.specs.Prelude.{List, None, Option, Some, ℕ}
use Rattle.mb_outside.specs.Files.{Held}
use Rattle.mb_outside.specs.Rows.{Key, Rows}

-- keys and bodies, one a row
abbrev pub Entries : Type 0
Entries = List (Key × List ℕ)

-- they are stored as they are
abbrev pub entries_code : Coded Entries
entries_code = coded_list (coded× (coded× coded_ℕ (coded_list coded_ℕ)) (coded_list coded_ℕ))

-- the named files, and the kept rows
pub record World : Type 0 where
  pub files : Held
  pub rows : Rows

-- the world, where both the files and the keeper tell
abbrev pub world_of : Option Held → Option Rows → Option World
world_of None rows = None
world_of (Some files) None = None
world_of (Some files) (Some rows) = Some (record { files = files; rows = rows })
