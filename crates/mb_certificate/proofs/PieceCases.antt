-- The pieces of a text, as a reader of lines and items takes them.
use Rattle.std.proofs.Common.{Bool, Err, List, Ok, [], ap, arith, false, length, refl, sym, ℕ, ◌++◌, ◌+◌, ◌<◌, ◌==◌, ◌∙◌, ◌∷◌, ◌≡◌}
use Rattle.std.proofs.lemmas.Bool.Decides.{nat_tests}
use Rattle.std.proofs.lemmas.List.{length-append}
use Rattle.std.proofs.lemmas.List.Splits.{join_with_byte-slice_split}
use Rattle.std.specs.List.{join_with_byte}
use Rattle.mb_certificate.specs.Reading.{first_line, none_left}
use Rattle.mb_certificate.specs.loops.Counted.{AreCounted}
use Rattle.mb_text.proofs.PieceCases.{some_piece}
use Rattle.mb_text.specs.Lines.{items, lines, pieces}

-- the first line, where other pieces follow it
pub first_line_is : (number : ℕ) (all : List (List ℕ)) (line : List ℕ) (others : List (List ℕ)) →
    all ≡ line ∷ others → 0 < length line → 0 < length others →
    first_line number all
    ≡ Ok (
      record { number = number; items = items line },
      record { number = number + 1; pieces = others },
    )
first_line_is number all line [] e s l = absurd (omega arith)
first_line_is number all [] (next ∷ others) e s l = absurd (omega arith)
first_line_is number all (b ∷ line) (next ∷ others) e s l = ap (first_line number) e

-- a text whose first piece is a line is the line, its end, and the rest
line_cut : (text line rest : List ℕ) → lines text ≡ line ∷ lines rest →
    text ≡ line ++ 10 ∷ rest
line_cut text line rest e =
    sym (join_with_byte-slice_split 10 text) ∙ ap (join_with_byte 10) e
    ∙ by (lines rest) (some_piece 10 rest)
    ∙ ap (λ others. line ++ 10 ∷ others) (join_with_byte-slice_split 10 rest)
  where
    by : (others : List (List ℕ)) → 0 < length others →
        join_with_byte 10 (line ∷ others) ≡ line ++ 10 ∷ join_with_byte 10 others
    by [] l = absurd (omega arith)
    by (next ∷ others) l = refl

-- after a line of one byte or more the lines are still counted
pub counted_on : (number : ℕ) (text line rest : List ℕ) → AreCounted number text →
    lines text ≡ line ∷ lines rest → 0 < length line → AreCounted (number + 1) rest
counted_on number text line rest is e some =
    let long = ap length (line_cut text line rest e) ∙ length-append line (10 ∷ rest) in
    let fits = is.fits in
    let left = is.left in
    record { first = omega arith; fits = omega arith; left = omega arith }

-- a line with items left doesn't end here
pub none_left-not : (number : ℕ) (rest : List ℕ) → none_left number (items rest) ≡ Err number
none_left-not number rest = by (items rest) (some_piece 32 rest)
  where
    by : (all : List (List ℕ)) → 0 < length all → none_left number all ≡ Err number
    by [] l = absurd (omega arith)
    by (item ∷ others) l = refl

-- a piece that isn't empty has a byte
pub some_byte : (n : ℕ) (empty : Bool) → empty ≡ (n == 0) → empty ≡ false → 0 < n
some_byte n empty is not = grind (arith, nat_tests, is, not)
