-- The one change of a command, as it is made.
use Rattle.std.specs.FinMap.{get, insert, remove}
use Rattle.std.specs.Prelude.{Err, List, None, Ok, Option, Result, ℕ, ◌≡◌}
use Rattle.mb_desk.specs.World.{World}
use Rattle.mb_desk.specs.declared.plans.Change.{Change}
use Rattle.mb_desk.specs.declared.plans.Change.TheVariants.{Adds, Nothing, Removes, Writes}
use Rattle.mb_desk.specs.declared.plans.Stop.{Stop}
use Rattle.mb_desk.specs.declared.plans.Stop.TheVariants.{Memory, Outside, Refused}
use Rattle.mb_outside.specs.Files.{Held, IsLeft, IsPut}
use Rattle.mb_outside.specs.Rows.{Rows}
use Rattle.mb_outside.specs.Told.{WhereTold}
use Rattle.mb_outside.specs.declared.keeper.KeepFault.{KeepFault}
use Rattle.mb_outside.specs.declared.keeper.KeepFault.TheVariants as faults
use Rattle.mb_registry.specs.Kinds.{key_of}

-- the rows after a change
abbrev pub changed_rows : Change → Rows → Rows
changed_rows Nothing rows = rows
changed_rows (Adds kind name body) rows = insert rows (key_of kind name) body
changed_rows (Removes kind name) rows = remove rows (key_of kind name)
changed_rows (Writes file body) rows = rows

-- the files after a change
abbrev pub changed_files : Change → Held → Held
changed_files (Writes file body) files = insert files file body
changed_files Nothing files = files
changed_files (Adds kind name body) files = files
changed_files (Removes kind name) files = files

-- the world after a change
abbrev pub changed : Change → World → World
changed change w =
    record { files = changed_files change w.files; rows = changed_rows change w.rows }

-- a row is added where there is one of its key, or one is taken out where there is none
abbrev pub Misses : Change → Rows → Type 0
Misses Nothing rows = ⊥
Misses (Adds kind name body) rows = get rows (key_of kind name) ≡ None → ⊥
Misses (Removes kind name) rows = get rows (key_of kind name) ≡ None
Misses (Writes file body) rows = ⊥

-- what becomes of the rows under a change: it is made, or they are as before; a refusal comes only
-- where the change misses
abbrev pub ChangesRows : Change → Rows → Rows → Result (Unit {0}) Stop → Type 0
ChangesRows change before after (Ok _) = after ≡ changed_rows change before
ChangesRows change before after (Err Memory) = after ≡ before
ChangesRows change before after (Err Outside) = after ≡ before
ChangesRows change before after (Err (Refused refusal)) = (after ≡ before) × Misses change before

-- why the work stops for a fault of the keeper
abbrev pub keep_stop : KeepFault → Stop
keep_stop faults.Failed = Outside
keep_stop faults.OutOfMemory = Memory

-- a file is written, or left as a failed write leaves it: its old body, none, or a front of the new
abbrev pub WritesFile : List ℕ → List ℕ → Option Held → Option Held → Result (Unit {0}) Stop
    → Type 0
WritesFile file body before after (Ok _) = IsPut file body before after
WritesFile file body before after (Err Memory) = after ≡ before
WritesFile file body before after (Err Outside) = IsLeft file body before after
WritesFile file body before after (Err (Refused refusal)) = ⊥

-- what becomes of the files under a change: what they tell and whether they tell is as before, but
-- for a file that is written
abbrev pub FilesLeft : Change → Option Held → Option Held → Result (Unit {0}) Stop → Type 0
FilesLeft Nothing before after made = (after ≡ before) × (made ≡ Ok tt)
FilesLeft (Adds kind name body) before after made = after ≡ before
FilesLeft (Removes kind name) before after made = after ≡ before
FilesLeft (Writes file body) before after made = WritesFile file body before after made

-- what becomes of the rows, where they are told at the return
abbrev pub RowsLeft : Change → Option Rows → Option Rows → Result (Unit {0}) Stop → Type 0
RowsLeft change before after made =
    WhereTold before after (λ b a. ChangesRows change b a made)

-- a keeper that a change doesn't touch tells what it told
abbrev pub KeeperLeft : Change → Option Rows → Option Rows → Type 0
KeeperLeft Nothing before after = after ≡ before
KeeperLeft (Adds kind name body) before after = Unit {0}
KeeperLeft (Removes kind name) before after = Unit {0}
KeeperLeft (Writes file body) before after = after ≡ before
