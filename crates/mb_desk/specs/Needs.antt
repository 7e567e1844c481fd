-- What a request needs of the outside: what it neither reads nor changes need not be told.
use Rattle.std.specs.FinMap.{empty}
use Rattle.std.specs.Prelude.{None, Option, Some}
use Rattle.mb_desk.specs.Decision.{Scene}
use Rattle.mb_desk.specs.declared.plans.Change.{Change}
use Rattle.mb_desk.specs.declared.plans.Change.TheVariants.{Adds, Nothing, Removes, Writes}
use Rattle.mb_outside.specs.Files.{Held}
use Rattle.mb_outside.specs.Rows.{Rows}

-- the files alone, the rows alone, both, or neither
pub data Needs : Type 0 where
  FilesAlone : Needs
  RowsAlone : Needs
  Both : Needs
  Neither : Needs

-- what is told, or else this
abbrev pub told_or : {A : Type 0} → A → Option A → Option A
told_or x None = Some x
told_or x (Some told) = Some told

-- files that aren't needed are taken as empty where they aren't told
abbrev pub needed_files : Needs → Option Held → Option Held
needed_files FilesAlone files = files
needed_files RowsAlone files = told_or empty files
needed_files Both files = files
needed_files Neither files = told_or empty files

-- and so are rows
abbrev pub needed_rows : Needs → Option Rows → Option Rows
needed_rows FilesAlone rows = told_or empty rows
needed_rows RowsAlone rows = rows
needed_rows Both rows = rows
needed_rows Neither rows = told_or empty rows

-- what is seen for a request
abbrev pub needed : Needs → Scene → Scene
needed needs s = record {
  files = needed_files needs s.files;
  files_failed = s.files_failed;
  rows = needed_rows needs s.rows;
  rows_failed = s.rows_failed;
}

-- a change touches only what is needed
abbrev pub Touches : Needs → Change → Type 0
Touches Both change = Unit {0}
Touches FilesAlone Nothing = Unit {0}
Touches FilesAlone (Adds kind name body) = ⊥
Touches FilesAlone (Removes kind name) = ⊥
Touches FilesAlone (Writes file body) = Unit {0}
Touches RowsAlone Nothing = Unit {0}
Touches RowsAlone (Adds kind name body) = Unit {0}
Touches RowsAlone (Removes kind name) = Unit {0}
Touches RowsAlone (Writes file body) = ⊥
Touches Neither Nothing = Unit {0}
Touches Neither (Adds kind name body) = ⊥
Touches Neither (Removes kind name) = ⊥
Touches Neither (Writes file body) = ⊥
