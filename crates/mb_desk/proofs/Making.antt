-- What a change makes of the world.
use Rattle.std.proofs.Common.{Err, List, None, Ok, Option, Result, Some, inl, inr, refl, ℕ, ◌≡◌, ◌⊎◌}
use Rattle.mb_desk.proofs.Fitting.{Fits}
use Rattle.mb_desk.specs.Changes.{ChangesRows, FilesLeft, Misses, RowsLeft, WritesFile, changed, changed_files}
use Rattle.mb_desk.specs.Decision.{Scene}
use Rattle.mb_desk.specs.Ends.{HasBlamed, IsHalfWritten}
use Rattle.mb_desk.specs.World.{World, world_of}
use Rattle.mb_desk.specs.declared.plans.Change.{Change}
use Rattle.mb_desk.specs.declared.plans.Change.TheVariants.{Adds, Nothing, Removes, Writes}
use Rattle.mb_desk.specs.declared.plans.Stop.{Stop}
use Rattle.mb_desk.specs.declared.plans.Stop.TheVariants.{Memory, Outside, Refused}
use Rattle.mb_outside.specs.Causes.{Rose}
use Rattle.mb_outside.specs.Files.{Held}
use Rattle.mb_outside.specs.Rows.{Rows}
use Rattle.mb_outside.specs.Told.{WhereTold}

-- whether a change was made, or why not
abbrev pub Made : Type 0
Made = Result (Unit {0}) Stop

-- what becomes of a change that fits: it is made; or want of memory or a fault leaves all as it
-- was, but for a file whose write failed
abbrev pub Makes : Change → World → World → Type 0 → Made → Type 0
Makes change w v files_failed (Ok _) = v ≡ changed change w
Makes change w v files_failed (Err Memory) = v ≡ w
Makes change w v files_failed (Err Outside) =
    (v ≡ w) ⊎ (files_failed × IsHalfWritten change w v)
Makes change w v files_failed (Err (Refused refusal)) = ⊥

-- a change that leaves the files
rows_make : (change : Change) (f0 f1 : Held) (r0 r1 : Rows) (failed : Type 0) (made : Made) →
    Some f1 ≡ Some f0 → changed_files change f0 ≡ f0 → ChangesRows change r0 r1 made →
    (Misses change r0 → ⊥) →
    Makes change (record { files = f0; rows = r0 }) (record { files = f1; rows = r1 }) failed made
rows_make change f0 f1 r0 r1 failed (Ok _) same unchanged rows fits = cc
rows_make change f0 f1 r0 r1 failed (Err Memory) same unchanged rows fits = cc
rows_make change f0 f1 r0 r1 failed (Err Outside) same unchanged rows fits = inl (cc)
rows_make change f0 f1 r0 r1 failed (Err (Refused refusal)) same unchanged rows fits =
    fits rows.1

-- a write leaves the rows
write_makes : (file body : List ℕ) (f0 f1 : Held) (r0 r1 : Rows) (failed : Type 0) (made : Made) →
    (made ≡ Err Outside → failed) → WritesFile file body (Some f0) (Some f1) made →
    ChangesRows (Writes file body) r0 r1 made →
    Makes (Writes file body) (record { files = f0; rows = r0 }) (record { files = f1; rows = r1 })
    failed made
write_makes file body f0 f1 r0 r1 failed (Ok _) cause written rows = cc
write_makes file body f0 f1 r0 r1 failed (Err Memory) cause written rows = cc
write_makes file body f0 f1 r0 r1 failed (Err Outside) cause written rows =
    inr (cause refl, (written, rows))
write_makes file body f0 f1 r0 r1 failed (Err (Refused refusal)) cause written rows = written

-- a change that writes a file
abbrev pub IsWrite : Change → Type 0
IsWrite Nothing = ⊥
IsWrite (Adds kind name body) = ⊥
IsWrite (Removes kind name) = ⊥
IsWrite (Writes file body) = Unit {0}

-- such a change blames the files
pub file_blamed : (change : Change) (before after : Scene) → IsWrite change →
    HasBlamed change before after → Rose before.files_failed after.files_failed
file_blamed Nothing before after is blamed = absurd is
file_blamed (Adds kind name body) before after is blamed = absurd is
file_blamed (Removes kind name) before after is blamed = absurd is
file_blamed (Writes file body) before after is blamed = blamed

-- what a change makes of a world
makes_of : (change : Change) (f0 f1 : Held) (r0 r1 : Rows) (failed : Type 0) (made : Made) →
    FilesLeft change (Some f0) (Some f1) made → ChangesRows change r0 r1 made →
    (IsWrite change → made ≡ Err Outside → failed) →
    Fits change (record { files = f0; rows = r0 }) →
    Makes change (record { files = f0; rows = r0 }) (record { files = f1; rows = r1 }) failed made
makes_of Nothing f0 f1 r0 r1 failed made files rows cause fits =
    rows_make Nothing f0 f1 r0 r1 failed made files.0 refl rows fits
makes_of (Adds kind name body) f0 f1 r0 r1 failed made files rows cause fits =
    rows_make (Adds kind name body) f0 f1 r0 r1 failed made files refl rows fits
makes_of (Removes kind name) f0 f1 r0 r1 failed made files rows cause fits =
    rows_make (Removes kind name) f0 f1 r0 r1 failed made files refl rows fits
makes_of (Writes file body) f0 f1 r0 r1 failed made files rows cause fits =
    write_makes file body f0 f1 r0 r1 failed made (cause tt) files rows

-- files that tell nothing tell nothing after a write
untold_write : (file body : List ℕ) (after : Held) (made : Made) →
    WritesFile file body None (Some after) made → ⊥
untold_write file body after (Ok _) written = cc
untold_write file body after (Err Memory) written = cc
untold_write file body after (Err Outside) (inl same) = cc
untold_write file body after (Err Outside) (inr (inl gone)) = cc
untold_write file body after (Err Outside) (inr (inr front)) = cc front.1
untold_write file body after (Err (Refused refusal)) written = written

-- nor after any change
untold_files : (change : Change) (after : Held) (made : Made) →
    FilesLeft change None (Some after) made → ⊥
untold_files Nothing after made left = cc left.0
untold_files (Adds kind name body) after made left = cc
untold_files (Removes kind name) after made left = cc
untold_files (Writes file body) after made left = untold_write file body after made left

-- what a change makes of the world, where it is told
pub makes : (change : Change) (f0 f1 : Option Held) (r0 r1 : Option Rows) (failed : Type 0)
    (made : Made) → FilesLeft change f0 f1 made → RowsLeft change r0 r1 made →
    (IsWrite change → made ≡ Err Outside → failed) →
    WhereTold (world_of f0 r0) (world_of f1 r1)
    (λ w v. Fits change w → Makes change w v failed made)
makes change f0 None r0 r1 failed made files rows cause = tt
makes change f0 (Some f1) r0 None failed made files rows cause = tt
makes change None (Some f1) r0 (Some r1) failed made files rows cause =
    absurd (untold_files change f1 made files)
makes change (Some f0) (Some f1) None (Some r1) failed made files rows cause = absurd rows
makes change (Some f0) (Some f1) (Some r0) (Some r1) failed made files rows cause =
    λ fits. makes_of change f0 f1 r0 r1 failed made files rows cause fits
