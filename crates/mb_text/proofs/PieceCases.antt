-- The pieces of a text, as a reader of lines and items takes them.
use Rattle.std.proofs.Common.{Err, List, None, Ok, Some, [], ap, arith, cond, length, refl, sym, true, ℕ, ◌<◌, ◌==◌, ◌∙◌, ◌∷◌, ◌≡◌}
use Rattle.std.proofs.lemmas.List.Splits.{join_with_byte-slice_split, length-slice_split}
use Rattle.std.proofs.lemmas.Slice.Eq.{bytes_eq-Decides}
use Rattle.std.specs.List.{join_with_byte}
use Rattle.std.specs.Str.{bytes_eq}
use Rattle.mb_text.specs.LineForms.{after, only}
use Rattle.mb_text.specs.Lines.{lines, pieces}
use Rattle.mb_text.specs.RecordLines.{ends, first_line}

-- there is a piece in any case
pub some_piece : (byte : ℕ) (text : List ℕ) → 0 < length (pieces byte text)
some_piece byte text = let e = length-slice_split (λ b. b == byte) text in omega arith

-- the first line, where other pieces follow it
pub first_line_is : (number : ℕ) (all : List (List ℕ)) (line : List ℕ) (others : List (List ℕ)) →
    all ≡ line ∷ others → 0 < length others → first_line number all ≡ Ok (line, others)
first_line_is number all line [] e l = absurd (omega arith)
first_line_is number all line (next ∷ others) e l = ap (first_line number) e

-- a text with bytes in it doesn't end here
pub ends_not : (number : ℕ) (text : List ℕ) → (text ≡ [] → ⊥) →
    ends number (lines text) ≡ Err number
ends_not number text some = by (lines text) (sym (join_with_byte-slice_split 10 text))
  where
    by : (all : List (List ℕ)) → text ≡ join_with_byte 10 all → ends number all ≡ Err number
    by [] e = refl
    by ([] ∷ []) e = absurd (some e)
    by ([] ∷ (next ∷ others)) e = refl
    by ((b ∷ line) ∷ others) e = refl

-- a text is the same as itself
pub same_text : (text : List ℕ) → bytes_eq text text ≡ true
same_text text = (bytes_eq-Decides text text).1 refl

-- the items after the word that a line begins with
pub after-some : (word : List ℕ) (all others : List (List ℕ)) → all ≡ word ∷ others →
    0 < length others → after word all ≡ Some others
after-some word all [] e l = absurd (omega arith)
after-some word all (item ∷ others) e l =
    ap (after word) e ∙ ap (λ t. cond t (Some (item ∷ others)) None) (same_text word)

-- several items have no only one
pub only-more : (all : List (List ℕ)) (first : List ℕ) (others : List (List ℕ)) →
    all ≡ first ∷ others → 0 < length others → only all ≡ None
only-more all first [] e l = absurd (omega arith)
only-more all first (item ∷ others) e l = ap only e
