-- What the readers of parts of a text answer.
use Rattle.std.specs.Prelude.{Err, List, Ok, Result, length, ℕ, ℤ, ◌++◌, ◌+◌, ◌*◌, ◌≡◌}
use Rattle.mb_tables.specs.Answers.{IsRefused, ◌>>=◌}
use Rattle.mb_tables.specs.Rows.{array_of}
use Rattle.mb_text.specs.Tokens.{tokens}
use Rattle.mb_moves.specs.GridText.{array_in, cause, entries_after}
use Rattle.mb_moves.specs.declared.fault.GridFault.{GridFault}

-- entries that were read before those that are left
abbrev pub in_front : List ℤ → Result (List ℤ) GridFault → Result (List ℤ) GridFault
in_front front left = left >>= λ entries. Ok (front ++ entries)

-- the answer has the entries that come first in a text, and the rest of the text
abbrev pub GoesOn : {X : Type 0} → (X → List ℤ) → (X → List ℕ) → ℕ → ℕ → List ℕ →
    Result X GridFault → Type 0
GoesOn front rest wanted found text (Ok x) =
    entries_after wanted found (tokens text)
    ≡ in_front (front x) (entries_after wanted (found + length (front x)) (tokens (rest x)))
GoesOn front rest wanted found text (Err fault) =
    IsRefused (cause fault) (entries_after wanted found (tokens text))

-- the answer has the sizes that a text begins with, and the rest of the text
abbrev pub HasSizes : {X : Type 0} → (X → ℕ) → (X → ℕ) → (X → List ℕ) → ℕ → ℕ → List ℕ →
    Result X GridFault → Type 0
HasSizes count width rest lowest highest text (Ok x) =
    array_in lowest highest (tokens text)
    ≡ (entries_after (count x * width x) 0 (tokens (rest x))
    >>= λ entries. Ok (array_of (width x) (count x) entries))
HasSizes count width rest lowest highest text (Err fault) =
    IsRefused (cause fault) (array_in lowest highest (tokens text))
