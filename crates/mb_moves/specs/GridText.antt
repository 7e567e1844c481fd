-- The text of a matrix or of a list of moves: two sizes and the entries, or the first fault from
-- the left.
use Rattle.std.specs.Prelude.{Err, List, None, Ok, Option, Result, Some, [], if◌then◌else◌, nat_le, nat_lt, negsuc, pos, ℕ, ℤ, ◌&&◌, ◌*◌, ◌+◌, ◌==◌, ◌^◌, ◌∷◌}
use Rattle.std.specs.Int.RustNames.{unsigned_abs}
use Rattle.mb_tables.specs.Answers.{◌>>=◌}
use Rattle.mb_tables.specs.Limits.{most_cells, most_moves}
use Rattle.mb_tables.specs.Rows.{Rows, array_of}
use Rattle.mb_text.specs.Numerals.{number_of}
use Rattle.mb_text.specs.Tokens.{tokens}
use Rattle.mb_moves.specs.declared.fault.GridFault.{GridFault}
use Rattle.mb_moves.specs.declared.fault.GridFault.TheVariants.{BadNumber, NoSize, OutOfMemory, TooFew, TooMany, TooWideNumber}

-- what is the matter with a text; want of memory says nothing of it
abbrev pub cause : GridFault → Option GridFault
cause NoSize = Some NoSize
cause (BadNumber token) = Some (BadNumber token)
cause (TooWideNumber token) = Some (TooWideNumber token)
cause (TooFew found wanted) = Some (TooFew found wanted)
cause (TooMany wanted) = Some (TooMany wanted)
cause OutOfMemory = None

-- a number as a size from lowest to highest
abbrev pub size_within : ℕ → ℕ → Option ℤ → Result ℕ GridFault
size_within lowest highest (Some (pos n)) =
    if nat_le lowest n && nat_le n highest then Ok n else Err NoSize
size_within lowest highest (Some (negsuc n)) = Err NoSize
size_within lowest highest None = Err NoSize

-- a token as a size
abbrev pub size_of : ℕ → ℕ → List ℕ → Result ℕ GridFault
size_of lowest highest token = size_within lowest highest (number_of token)

-- a number as an entry; place is the token's number in the text, from 1
abbrev pub entry_within : ℕ → Option ℤ → Result ℤ GridFault
entry_within place (Some z) =
    if nat_lt (unsigned_abs z) (2 ^ 31) then Ok z else Err (TooWideNumber place)
entry_within place None = Err (BadNumber place)

-- a token as an entry
abbrev pub entry_of : ℕ → List ℕ → Result ℤ GridFault
entry_of place token = entry_within place (number_of token)

-- the entries that are left in these tokens, where so many are wanted in all and so many were
-- found; the two sizes are the tokens 1 and 2
unfoldable pub entries_after : ℕ → ℕ → List (List ℕ) → Result (List ℤ) GridFault
entries_after wanted found [] = if found == wanted then Ok [] else Err (TooFew found wanted)
entries_after wanted found (token ∷ others) =
    if found == wanted then Err (TooMany wanted) else do
      entry ← entry_of (found + 3) token
      entries ← entries_after wanted (found + 1) others
      Ok (entry ∷ entries)

-- the array that tokens say, of so many rows at least and at most: the number of rows, their
-- width, and the entries row by row
unfoldable pub array_in : ℕ → ℕ → List (List ℕ) → Result Rows GridFault
array_in lowest highest [] = Err NoSize
array_in lowest highest (first ∷ []) = Err NoSize
array_in lowest highest (first ∷ second ∷ others) = do
  count ← size_of lowest highest first
  width ← size_of 1 most_cells second
  entries ← entries_after (count * width) 0 others
  Ok (array_of width count entries)

-- the matrix that a text says
abbrev pub matrix_of : List ℕ → Result Rows GridFault
matrix_of text = array_in 1 most_cells (tokens text)

-- the moves that a text says
abbrev pub moves_of : List ℕ → Result Rows GridFault
moves_of text = array_in 0 most_moves (tokens text)
