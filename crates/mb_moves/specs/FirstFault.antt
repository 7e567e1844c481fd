-- The first fault of a text, in terms of its tokens.
use Rattle.std.specs.Prelude.{All, IsSomeAnd, List, None, Some, drop, length, map, pos, slice_get, take, ℕ, ◌*◌, ◌+◌, ◌<◌, ◌∷◌, ◌≡◌, ◌≤◌, []}
use Rattle.mb_tables.specs.Entries.{IsEntry}
use Rattle.mb_tables.specs.Limits.{most_cells}
use Rattle.mb_text.specs.Numerals.{number_of}
use Rattle.mb_moves.specs.declared.fault.GridFault.{GridFault}
use Rattle.mb_moves.specs.declared.fault.GridFault.TheVariants.{BadNumber, NoSize, OutOfMemory, TooFew, TooMany, TooWideNumber}

-- the first two tokens write the number of rows and their width, within their limits
pub record WriteSizes (lowest highest : ℕ) (tokens : List (List ℕ)) (count width : ℕ)
    : Type 0 where
  pub written : map number_of (take 2 tokens) ≡ Some (pos count) ∷ Some (pos width) ∷ []
  pub some : lowest ≤ count
  pub few : count ≤ highest
  pub positive : 1 ≤ width
  pub narrow : width ≤ most_cells

-- each of the tokens writes an entry
abbrev pub WriteEntries : List (List ℕ) → Type 0
WriteEntries tokens = All (λ token. IsSomeAnd (number_of token) IsEntry) tokens

-- a token that is no number
abbrev pub IsNoNumber : List ℕ → Type 0
IsNoNumber token = number_of token ≡ None

-- a token that is a number, and no entry
abbrev pub IsWideNumber : List ℕ → Type 0
IsWideNumber token = IsSomeAnd (number_of token) (λ z. IsEntry z → ⊥)

-- where so many entries are wanted, the first `found` tokens write some, and the next is wrong
pub record EndsAt (IsWrong : List ℕ → Type 0) (wanted found : ℕ) (tokens : List (List ℕ))
    : Type 0 where
  pub before : found < wanted
  pub entries : WriteEntries (take found tokens)
  pub next : IsSomeAnd (slice_get tokens found) IsWrong

-- the cause of each fault, of which a text has at most one: the sizes, or else the first token
-- after them that is no entry (the sizes are the tokens 1 and 2), or else the number of entries
abbrev pub IsFirstFault : ℕ → ℕ → List (List ℕ) → GridFault → Type 0
IsFirstFault lowest highest tokens NoSize =
    (count width : ℕ) → WriteSizes lowest highest tokens count width → ⊥
IsFirstFault lowest highest tokens (BadNumber token) =
    (count : ℕ) × (width : ℕ) × (found : ℕ) × WriteSizes lowest highest tokens count width
    × EndsAt IsNoNumber (count * width) found (drop 2 tokens) × (token ≡ found + 3)
IsFirstFault lowest highest tokens (TooWideNumber token) =
    (count : ℕ) × (width : ℕ) × (found : ℕ) × WriteSizes lowest highest tokens count width
    × EndsAt IsWideNumber (count * width) found (drop 2 tokens) × (token ≡ found + 3)
IsFirstFault lowest highest tokens (TooFew found wanted) =
    (count : ℕ) × (width : ℕ) × WriteSizes lowest highest tokens count width
    × (wanted ≡ count * width) × (found ≡ length (drop 2 tokens)) × (found < wanted)
    × WriteEntries (drop 2 tokens)
IsFirstFault lowest highest tokens (TooMany wanted) =
    (count : ℕ) × (width : ℕ) × WriteSizes lowest highest tokens count width
    × (wanted ≡ count * width) × (wanted < length (drop 2 tokens))
    × WriteEntries (take wanted (drop 2 tokens))
IsFirstFault lowest highest tokens OutOfMemory = ⊥
