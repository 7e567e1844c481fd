-- A text that is read line by line, and a line that is read item by item. Each step answers what
-- it reads and what is left, or the number of the line that is wrong.
use Rattle.std.specs.Option.{option_map}
use Rattle.std.specs.Prelude.{Err, List, None, Ok, Option, Result, Some, [], if◌then◌else◌, suc, zero, ℕ, ◌+◌, ◌∷◌}
use Rattle.std.specs.Str.{bytes_eq}
use Rattle.mb_tables.specs.Answers.{◌>>=◌}
use Rattle.mb_text.specs.Faults.{in_line}
use Rattle.mb_text.specs.Lines.{items, lines}
use Rattle.mb_text.specs.RecordLines.{ends}

-- what is left of a text: its pieces between line ends, and the number of the first of them
pub record LinesLeft : Type 0 where
  pub number : ℕ
  pub pieces : List (List ℕ)

-- what is left of a line: its items, and its number
pub record ItemsLeft : Type 0 where
  pub number : ℕ
  pub items : List (List ℕ)

-- a whole text. Lines count from 1
abbrev pub lines_of : List ℕ → LinesLeft
lines_of text = record { number = 1; pieces = lines text }

-- the first of the pieces as a line, and the lines after it. The last piece of a text is no line,
-- and no line is empty
abbrev pub first_line : ℕ → List (List ℕ) → Result (ItemsLeft × LinesLeft) ℕ
first_line number ((b ∷ line) ∷ next ∷ pieces) =
    Ok (
      record { number = number; items = items (b ∷ line) },
      record { number = number + 1; pieces = next ∷ pieces },
    )
first_line number _ = Err number

-- the next line, and the lines after it
abbrev pub next_line : LinesLeft → Result (ItemsLeft × LinesLeft) ℕ
next_line left = first_line left.number left.pieces

-- what the next line says, and the lines after it
unfoldable pub says : {A : Type 0} → (ItemsLeft → Result A ℕ) → LinesLeft →
    Result (A × LinesLeft) ℕ
says read left = next_line left >>= λ line. read line.0 >>= λ x. Ok (x, line.1)

-- what the first item is, and the items after it
abbrev pub first_item : {A : Type 0} → (List ℕ → Option A) → ℕ → List (List ℕ) →
    Result (A × ItemsLeft) ℕ
first_item read number [] = Err number
first_item read number (item ∷ others) =
    in_line number (option_map (λ x. (x, record { number = number; items = others })) (read item))

-- what the next item is, and the items after it
abbrev pub one : {A : Type 0} → (List ℕ → Option A) → ItemsLeft → Result (A × ItemsLeft) ℕ
one read left = first_item read left.number left.items

-- the line ends: no item is left
abbrev pub none_left : ℕ → List (List ℕ) → Result (Unit {0}) ℕ
none_left number [] = Ok tt
none_left number (item ∷ others) = Err number

-- where the line ends
abbrev pub line_ends : ItemsLeft → Result (Unit {0}) ℕ
line_ends left = none_left left.number left.items

-- where the text ends
abbrev pub text_ends : LinesLeft → Result (Unit {0}) ℕ
text_ends left = ends left.number left.pieces

-- so many steps, one after the other
unfoldable pub times : {A S : Type 0} → (S → Result (A × S) ℕ) → ℕ → S → Result (List A × S) ℕ
times step zero left = Ok ([], left)
times step (suc count) left =
    step left >>= λ first.
    times step count first.1 >>= λ others.
    Ok (first.0 ∷ others.0, others.1)

-- this word
abbrev pub word : List ℕ → List ℕ → Option (Unit {0})
word wanted item = if bytes_eq item wanted then Some tt else None
