-- The records of a CSV text, and those that are left in a reader.
use Rattle.std.specs.Borrow.{Bor}
use Rattle.std.specs.Option.{unwrap_or}
use Rattle.std.specs.Prelude.{List, Some, [], length, ℕ, ◌+◌, ◌≡◌}
use Rattle.csv.specs.Reading.{Ready, default_config, reader_config, reader_state, reader_trim, records, records_from, source_of, strip_bom}
use Rattle.csv.specs.declared.parser.State.{State}
use Rattle.csv.specs.declared.reader.Reader.{Reader}
use Rattle.csv.specs.declared.reader.Trim.TheVariants as trim

-- the records of a text, each the list of its fields; one byte order mark at the start is skipped
abbrev pub records_of : List ℕ → List (List (List ℕ))
records_of text = records default_config (strip_bom text)

-- the records of what is left of a text, read on from a state
abbrev pub records_left : State → List ℕ → List (List (List ℕ))
records_left state rest = records_from default_config (length rest + 1) state rest

-- the bytes that a reader has left
abbrev pub rest_of : Reader (Bor (List ℕ)) → List ℕ
rest_of reader = unwrap_or (source_of (λ (s : Bor (List ℕ)). Some s.now) reader) []

-- the records that a reader has left
abbrev pub left_in : Reader (Bor (List ℕ)) → List (List (List ℕ))
left_in reader = records_left (reader_state reader) (rest_of reader)

-- a reader by the defaults, whose next read is of a record
pub record IsReader (reader : Reader (Bor (List ℕ))) : Type 0 where
  pub untrimmed : reader_trim reader ≡ trim.None
  pub ready : Ready reader
  pub defaults : reader_config reader ≡ default_config
  pub known : source_of (λ (s : Bor (List ℕ)). Some s.now) reader ≡ Some (rest_of reader)

-- the record that was read last, and the records that are left
pub record Reading : Type 0 where
  pub fields : List (List ℕ)
  pub left : List (List (List ℕ))
