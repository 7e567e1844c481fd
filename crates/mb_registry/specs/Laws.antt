-- The laws of the registry.
use Rattle.std.specs.FinMap.{empty}
use Rattle.std.specs.Prelude.{All, Err, List, Ok, Some, ℕ, ◌≡◌, ◌≢◌}
use Rattle.mb_outside.specs.Rows.{Rows}
use Rattle.mb_registry.specs.Adding.{rows_added}
use Rattle.mb_registry.specs.Bodies.{HasFewTables, IsRecord, body_of, record_of}
use Rattle.mb_registry.specs.Listing.{listed_of}
use Rattle.mb_registry.specs.Looking.{get_of}
use Rattle.mb_registry.specs.Orderly.{AreOrderly, IsStep, Step, after_steps, record_added}
use Rattle.mb_registry.specs.Records.{RecordValue, kind_of}
use Rattle.mb_registry.specs.Removing.{removed_of}
use Rattle.mb_registry.specs.declared.adding.Added.{Added}
use Rattle.mb_registry.specs.declared.adding.Added.TheVariants.{Unchanged}
use Rattle.mb_registry.specs.declared.fault.RegistryFault.TheVariants.{BadRecord}
use Rattle.mb_registry.specs.declared.kinds.Kind.{Kind}

-- a body is read as the record of which it is the body, and as no other
pub record BodyIsItsRecord : Type 0 where
  pub read : (entry : RecordValue) → IsRecord entry → HasFewTables entry →
      record_of (kind_of entry) (body_of entry) ≡ Some entry
  pub of_kind : (kind : Kind) (body : List ℕ) (entry : RecordValue) →
      record_of kind body ≡ Some entry → kind_of entry ≡ kind
  pub written : (kind : Kind) (body : List ℕ) (entry : RecordValue) →
      record_of kind body ≡ Some entry → body ≡ body_of entry
  pub sound : (kind : Kind) (body : List ℕ) (entry : RecordValue) →
      record_of kind body ≡ Some entry → IsRecord entry

-- no rows are orderly, and orderly rows are orderly after every list of accepted steps
pub record StepsKeepOrder : Type 0 where
  pub from_none : AreOrderly empty
  pub steps : (steps : List Step) (rows later : Rows) → All IsStep steps → AreOrderly rows →
      after_steps steps rows ≡ Ok later → AreOrderly later

-- over orderly rows no look-up, no list and no removal meets a bad record
pub record OrderlyIsNotBad : Type 0 where
  pub get : (kind asked : Kind) (name bad : List ℕ) (rows : Rows) → AreOrderly rows →
      get_of kind name rows ≢ Err (BadRecord asked bad)
  pub list : (asked : Kind) (bad : List ℕ) (rows : Rows) → AreOrderly rows →
      listed_of rows ≢ Err (BadRecord asked bad)
  pub remove : (kind asked : Kind) (name bad : List ℕ) (rows : Rows) → AreOrderly rows →
      removed_of kind name rows ≢ Err (BadRecord asked bad)

-- a record that was accepted may be added again: that answers `Unchanged` and changes nothing
pub record RepeatsAreUnchanged : Type 0 where
  pub again : (name : List ℕ) (entry : RecordValue) (rows : Rows) (added : Added) →
      record_added name entry rows ≡ Ok added →
      record_added name entry (rows_added (kind_of entry) name (body_of entry) added rows)
      ≡ Ok Unchanged
  pub same : (kind : Kind) (name body : List ℕ) (rows : Rows) →
      rows_added kind name body Unchanged rows ≡ rows
