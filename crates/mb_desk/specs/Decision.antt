-- A decision: steps in the order of work, each of which refuses or goes on.
use Rattle.std.specs.Prelude.{Bool, Err, None, Ok, Option, Result, Some, false, true, ℕ, ◌≡◌, ◌≤◌, ◌⊎◌}
use Rattle.mb_desk.specs.World.{World, world_of}
use Rattle.mb_desk.specs.declared.plans.Stop.{Stop}
use Rattle.mb_desk.specs.declared.plans.Stop.TheVariants.{Memory, Outside, Refused}
use Rattle.mb_desk.specs.declared.refusals.Refusal.{Refusal}
use Rattle.mb_outside.specs.Causes.{HasCause, Rose}
use Rattle.mb_outside.specs.Files.{Held}
use Rattle.mb_outside.specs.Rows.{Rows}
use Rattle.mb_outside.specs.Told.{WhereTold}
use Rattle.mb_tables.specs.Answers.{Gives}

-- what a step decides: a value to go on with, or the refusal that ends the work
abbrev pub Decided : Type 0 → Type 0
Decided A = Result A Refusal

-- what is decided of a value or a fault of a lower call, each fault a refusal
abbrev pub or_refusal : {A F : Type 0} → (F → Refusal) → Result A F → Decided A
or_refusal refusal (Ok x) = Ok x
or_refusal refusal (Err fault) = Err (refusal fault)

-- the refusal that stops the work, if one does; want of memory and a fault of the outside have none
abbrev pub stop_cause : Stop → Option Refusal
stop_cause Memory = None
stop_cause Outside = None
stop_cause (Refused refusal) = Some refusal

-- what the code answers is what was decided; want of memory and faults of the outside are the only
-- answers beside it
abbrev pub Follows : {A : Type 0} → Result A Stop → Decided A → Type 0
Follows answer decided = Gives stop_cause (λ x. x) answer decided

-- whether the work stops for a fault of the outside
abbrev pub is_fault : Stop → Bool
is_fault Memory = false
is_fault Outside = true
is_fault (Refused refusal) = false

-- whether the answer says so
abbrev pub blames : {A : Type 0} → Result A Stop → Bool
blames (Ok x) = false
blames (Err stop) = is_fault stop

-- what is seen of the files and of the keeper: what each tells, and how often it failed
pub record Scene : Type 0 where
  pub files : Option Held
  pub files_failed : ℕ
  pub rows : Option Rows
  pub rows_failed : ℕ

-- the same from its parts
abbrev pub scene : Option Held → ℕ → Option Rows → ℕ → Scene
scene files files_failed rows rows_failed = record {
  files = files;
  files_failed = files_failed;
  rows = rows;
  rows_failed = rows_failed;
}

-- the counts of faults: none has fallen, and where the work blames the outside, one rose
pub record HaveRisen (before after : Scene) : Type 0 where
  pub files : before.files_failed ≤ after.files_failed
  pub rows : before.rows_failed ≤ after.rows_failed
  pub one : Rose before.files_failed after.files_failed ⊎ Rose before.rows_failed after.rows_failed

-- both counts of faults are as before
abbrev pub HaveStayed : Scene → Scene → Type 0
HaveStayed before after =
    (after.files_failed ≡ before.files_failed) × (after.rows_failed ≡ before.rows_failed)

-- a count of faults rose where the outside is blamed, and all stayed where it is not
abbrev pub HaveCause : Scene → Scene → Bool → Type 0
HaveCause before after true = HaveRisen before after
HaveCause before after false = HaveStayed before after

-- a fact of the world before and after, where both the files and the keeper tell at the return
abbrev pub InWorld : Scene → Scene → (World → World → Type 0) → Type 0
InWorld before after Fact =
    WhereTold (world_of before.files before.rows) (world_of after.files after.rows) Fact

-- a step of the work that stores nothing: its answer is what is decided over the world, all stays
-- as it was, and it blames the outside exactly where a count of faults rose
pub record Does {A : Type 0} (before after : Scene) (answer : Result A Stop)
    (decide : World → Decided A) : Type 0 where
  pub decided : InWorld before after (λ w _. Follows answer (decide w))
  pub files : after.files ≡ before.files
  pub rows : WhereTold before.rows after.rows (λ b a. a ≡ b)
  pub cause : HaveCause before after (blames answer)

-- the same of a step over the files alone
pub record DoesFiles {A : Type 0} (before after : Option Held) (failed_before failed_after : ℕ)
    (answer : Result A Stop) (decide : Held → Decided A) : Type 0 where
  pub decided : WhereTold before after (λ held _. Follows answer (decide held))
  pub same : after ≡ before
  pub cause : HasCause failed_before failed_after (blames answer)

-- and of one over the keeper alone (for commands that read records)
pub record DoesRows {A : Type 0} (before after : Option Rows) (failed_before failed_after : ℕ)
    (answer : Result A Stop) (decide : Rows → Decided A) : Type 0 where
  pub decided : WhereTold before after (λ rows _. Follows answer (decide rows))
  pub same : WhereTold before after (λ b a. a ≡ b)
  pub cause : HasCause failed_before failed_after (blames answer)
