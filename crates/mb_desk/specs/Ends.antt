-- How the work of a request ends, and what it leaves.
use Rattle.std.specs.Prelude.{Err, List, Ok, Option, Result, Some, ℕ, ◌≡◌, ◌⊎◌}
use Rattle.mb_desk.specs.Changes.{FilesLeft, KeeperLeft, RowsLeft, changed}
use Rattle.mb_desk.specs.Decision.{Decided, HaveCause, InWorld, Scene, blames}
use Rattle.mb_desk.specs.Needs.{Needs, Touches}
use Rattle.mb_desk.specs.World.{World}
use Rattle.mb_desk.specs.declared.plans.Change.{Change}
use Rattle.mb_desk.specs.declared.plans.Change.TheVariants.{Adds, Nothing, Removes, Writes}
use Rattle.mb_desk.specs.declared.plans.Plan.{Plan}
use Rattle.mb_desk.specs.declared.plans.Stop.{Stop}
use Rattle.mb_desk.specs.declared.plans.Stop.TheVariants.{Memory, Outside, Refused}
use Rattle.mb_outside.specs.Causes.{Rose}
use Rattle.mb_outside.specs.Files.{Held, IsLeft}
use Rattle.mb_outside.specs.Rows.{Rows}

-- a file was to be written, and is as a failed write leaves it: its old body, none, or a front of
-- the new one. All else is as it was
abbrev pub IsHalfWritten : Change → World → World → Type 0
IsHalfWritten Nothing w v = ⊥
IsHalfWritten (Adds kind name body) w v = ⊥
IsHalfWritten (Removes kind name) w v = ⊥
IsHalfWritten (Writes file body) w v =
    IsLeft file body (Some w.files) (Some v.files) × (v.rows ≡ w.rows)

-- a change that fails raises the count of the object that it changes
abbrev pub HasBlamed : Change → Scene → Scene → Type 0
HasBlamed Nothing before after = ⊥
HasBlamed (Adds kind name body) before after = Rose before.rows_failed after.rows_failed
HasBlamed (Removes kind name) before after = Rose before.rows_failed after.rows_failed
HasBlamed (Writes file body) before after = Rose before.files_failed after.files_failed

-- what becomes of a change between two scenes
pub record Commits (before after : Scene) (change : Change) (made : Result (Unit {0}) Stop)
    : Type 0 where
  pub files : FilesLeft change before.files after.files made
  pub rows : RowsLeft change before.rows after.rows made
  pub keeper : KeeperLeft change before.rows after.rows
  pub cause : HaveCause before after (blames made)
  pub blamed : made ≡ Err Outside → HasBlamed change before after

-- each of both objects by itself, be the other told or not, is as one change leaves it
pub record EachLeft (needs : Needs) (files_before files_after : Option Held)
    (rows_before rows_after : Option Rows) (made : Result (Unit {0}) Stop) : Type 0 where
  pub change : Change
  pub touches : Touches needs change
  pub files : FilesLeft change files_before files_after made
  pub rows : RowsLeft change rows_before rows_after made

-- a fact of all ends but an answer and a fault
abbrev pub Stays : {X : Type 0} → Result X Stop → Type 0 → Type 0
Stays (Ok _) Same = Unit {0}
Stays (Err Outside) Same = Unit {0}
Stays (Err Memory) Same = Same
Stays (Err (Refused refusal)) Same = Same

-- how the work ends: the whole answer, or why it stopped
abbrev pub Ended : Type 0
Ended = Result (List ℕ) Stop

-- the states that each end leaves: after an answer, the change was made; after a refusal and want
-- of memory, all is as it was; and after a fault too, but for a file whose write failed
abbrev pub Leaves : Decided Plan → World → World → Type 0 → Ended → Type 0
Leaves decided w v files_failed (Ok answer) =
    (change : Change) × (decided ≡ Ok (record { answer = answer; change = change }))
    × (v ≡ changed change w)
Leaves decided w v files_failed (Err (Refused refusal)) = (decided ≡ Err refusal) × (v ≡ w)
Leaves decided w v files_failed (Err Memory) = v ≡ w
Leaves decided w v files_failed (Err Outside) =
    (v ≡ w)
    ⊎ (files_failed × ((plan : Plan) × (decided ≡ Ok plan) × IsHalfWritten plan.change w v))

-- the work of a request ends so
pub record Ends (before after : Scene) (decide : World → Decided Plan) (ended : Ended)
    : Type 0 where
  pub left : InWorld before after (λ w v.
      Leaves (decide w) w v (Rose before.files_failed after.files_failed) ended)
  pub cause : HaveCause before after (blames ended)
