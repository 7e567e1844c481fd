-- Pieces from left to right.
use Rattle.std.proofs.Common.{List, [], ap, arith, drop, eqb, false, length, sym, take, ℕ, ◌+◌, ◌<◌, ◌∙◌, ◌∷◌, ◌≡◌, ◌≤◌}
use Rattle.std.proofs.lemmas.List.{drop-drop}
use Rattle.std.proofs.lemmas.List.Elements.{All-from_get_or}
use Rattle.std.proofs.lemmas.List.Splits.{slice_split_first, slice_split_none}
use Rattle.std.proofs.lemmas.List.Sums.{fails_before_first}
use Rattle.std.specs.List.{position_or_len}
use Rattle.mb_text.specs.Lines.{pieces}

-- a text without the byte is one piece
pub pieces_one : (byte : ℕ) (text : List ℕ) →
    length text ≤ position_or_len (λ b. eqb b byte) text → pieces byte text ≡ text ∷ []
pieces_one byte text l =
    slice_split_none (λ b. eqb b byte) text
    (All-from_get_or (λ b. eqb b byte ≡ false) text 0
    (λ k m. fails_before_first (λ b. eqb b byte) text k 0 (omega arith)))

-- what stands before the first such byte is the first piece
pub pieces_more : (byte n : ℕ) (text : List ℕ) → n ≡ position_or_len (λ b. eqb b byte) text →
    n < length text →
    pieces byte text ≡ take n text ∷ pieces byte (drop 1 (drop n text))
pieces_more byte n text e l =
    let m : position_or_len (λ b. eqb b byte) text < length text = omega arith in
    slice_split_first (λ b. eqb b byte) text 0 m
    ∙ ap (λ k. take k text ∷ pieces byte (drop (k + 1) text)) (sym e)
    ∙ ap (λ rest. take n text ∷ pieces byte rest)
    (sym (drop-drop 1 n text))
