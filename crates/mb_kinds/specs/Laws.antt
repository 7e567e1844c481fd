-- The laws of record texts.
use Rattle.std.specs.Prelude.{List, Ok, ℕ, ◌≡◌}
use Rattle.mb_kinds.specs.Record.{IsModelRecord, ModelRecord, written_record}
use Rattle.mb_kinds.specs.RecordText.{record_of}

-- what is written of a record is read as the record
abbrev pub WrittenRecordIsRead : Type 0
WrittenRecordIsRead =
    (entry : ModelRecord) → IsModelRecord entry → record_of (written_record entry) ≡ Ok entry

-- a text that is read as a record is what is written of it, and the record is sound
pub record ReadRecordIsWritten : Type 0 where
  pub written : (text : List ℕ) (entry : ModelRecord) → record_of text ≡ Ok entry →
      text ≡ written_record entry
  pub sound : (text : List ℕ) (entry : ModelRecord) → record_of text ≡ Ok entry →
      IsModelRecord entry
