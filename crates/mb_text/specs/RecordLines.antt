-- The text of a record: lines that each say something, or the first wrong line. Lines count from 1.
use Rattle.std.specs.Option.{option_map}
use Rattle.std.specs.Prelude.{Err, List, None, Ok, Option, Result, Some, [], ℕ, ◌∷◌}
use Rattle.mb_tables.specs.Answers.{◌>>=◌}
use Rattle.mb_text.specs.Faults.{in_line}
use Rattle.mb_text.specs.declared.record_fault.RecordFault.{RecordFault}
use Rattle.mb_text.specs.declared.record_fault.RecordFault.TheVariants.{OutOfMemory, Text}

-- the first of the pieces, where another follows: the last piece of a text is no line
abbrev pub first_line : ℕ → List (List ℕ) → Result (List ℕ × List (List ℕ)) ℕ
first_line number (line ∷ next ∷ pieces) = Ok (line, next ∷ pieces)
first_line number _ = Err number

-- what the first line says, and the pieces after it
unfoldable pub says : {A : Type 0} → ℕ → (List ℕ → Option A) → List (List ℕ) →
    Result (A × List (List ℕ)) ℕ
says number read pieces =
    first_line number pieces >>= λ line.
    in_line number (option_map (λ x. (x, line.1)) (read line.0))

-- the last piece is empty: the text ends with the line end before it
abbrev pub ends : ℕ → List (List ℕ) → Result (Unit {0}) ℕ
ends number ([] ∷ []) = Ok tt
ends number _ = Err number

-- the number of the first wrong line; want of memory has none
abbrev pub record_cause : RecordFault → Option ℕ
record_cause (Text line) = Some line
record_cause OutOfMemory = None
