-- The laws of lines and numbers: each has one spelling, and what is written is read.
use Rattle.std.specs.Prelude.{All, List, Some, [], false, ℕ, ℤ, ◌++◌, ◌<◌, ◌==◌, ◌^◌, ◌↔◌, ◌∷◌, ◌≡◌, ◌≢◌}
use Rattle.std.specs.Fmt.{decimal, signed_decimal}
use Rattle.std.specs.Int.RustNames.{unsigned_abs}
use Rattle.std.specs.List.{join_with_byte}
use Rattle.mb_text.specs.Lines.{line, lines, pieces}
use Rattle.mb_text.specs.Numerals.{number_of}
use Rattle.mb_text.specs.Plain.{plain_of, plain_signed_of}
use Rattle.mb_text.specs.Tokens.{IsToken, tokens}

-- no byte of a list is this one
abbrev pub Lacks : ℕ → List ℕ → Type 0
Lacks byte text = All (λ b. (b == byte) ≡ false) text

-- a text has one list of pieces, and these, joined, are the text
pub record PiecesAreTheText : Type 0 where
  pub joined : (byte : ℕ) (text : List ℕ) → join_with_byte byte (pieces byte text) ≡ text
  pub cut : (byte : ℕ) (list : List (List ℕ)) → list ≢ [] → All (Lacks byte) list →
      pieces byte (join_with_byte byte list) ≡ list
  pub first_line : (list : List (List ℕ)) (rest : List ℕ) → All (Lacks 10) list →
      lines (line list ++ rest) ≡ join_with_byte 32 list ∷ lines rest

-- an item is the number n exactly where it is the decimal form of n; the same with a sign
pub record OneSpelling : Type 0 where
  pub natural : (item : List ℕ) (n : ℕ) → n < 10 ^ 64 →
      (plain_of item ≡ Some n) ↔ (item ≡ decimal n)
  pub signed : (item : List ℕ) (z : ℤ) → unsigned_abs z < 10 ^ 64 →
      (plain_signed_of item ≡ Some z) ↔ (item ≡ signed_decimal z)

-- the tokens of a line are its items
abbrev pub LineIsItsTokens : Type 0
LineIsItsTokens =
    (list : List (List ℕ)) (rest : List ℕ) → list ≢ [] → All IsToken list →
    tokens (line list ++ rest) ≡ list ++ tokens rest

-- a number that is written is a token, and is read as this number
pub record WrittenNumberIsRead : Type 0 where
  pub token : (z : ℤ) → unsigned_abs z < 10 ^ 64 → IsToken (signed_decimal z)
  pub number : (z : ℤ) → unsigned_abs z < 10 ^ 64 → number_of (signed_decimal z) ≡ Some z
