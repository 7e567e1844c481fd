-- Pieces, joined, are cut again.
use Rattle.std.proofs.Common.{All, List, [], ap, append_assoc, eqb, false, refl, ℕ, ◌++◌, ◌∙◌, ◌∷◌, ◌≡◌, ◌≢◌}
use Rattle.std.proofs.lemmas.Bool.{eq-eqb}
use Rattle.std.proofs.lemmas.List.Elements.{All-append, All-from_recursion, All-head, All-nil, All-tail}
use Rattle.std.proofs.lemmas.List.Splits.{slice_split_at, slice_split_none}
use Rattle.std.specs.List.{join_with_byte}
use Rattle.mb_text.specs.Laws.{Lacks}
use Rattle.mb_text.specs.Lines.{line, lines, pieces}

-- pieces without the byte that joins them are cut at it
pub pieces_again : (byte : ℕ) (list : List (List ℕ)) → list ≢ [] → All (Lacks byte) list →
    pieces byte (join_with_byte byte list) ≡ list
pieces_again byte [] some lack = absurd (some refl)
pieces_again byte (x ∷ []) some lack =
    slice_split_none (λ b. eqb b byte) x (All-head (Lacks byte) x [] lack)
pieces_again byte (x ∷ y ∷ list) some lack =
    slice_split_at (λ b. eqb b byte) x byte (join_with_byte byte (y ∷ list))
    (All-head (Lacks byte) x (y ∷ list) lack) (eq-eqb byte byte refl)
    ∙ ap (λ others. x ∷ others)
    (pieces_again byte (y ∷ list) (λ e. cc) (All-tail (Lacks byte) x (y ∷ list) lack))

-- items without a byte other than the space have a line without it
joined_lacks : (byte : ℕ) (list : List (List ℕ)) → eqb 32 byte ≡ false → All (Lacks byte) list →
    Lacks byte (join_with_byte 32 list)
joined_lacks byte [] other lack = All-nil (λ b. eqb b byte ≡ false)
joined_lacks byte (x ∷ []) other lack = All-head (Lacks byte) x [] lack
joined_lacks byte (x ∷ y ∷ list) other lack =
    All-append (λ b. eqb b byte ≡ false) x (32 ∷ join_with_byte 32 (y ∷ list))
    (All-head (Lacks byte) x (y ∷ list) lack)
    (All-append (λ b. eqb b byte ≡ false) (32 ∷ []) (join_with_byte 32 (y ∷ list))
    (All-from_recursion (λ b. eqb b byte ≡ false) (32 ∷ []) (other, tt))
    (joined_lacks byte (y ∷ list) other (All-tail (Lacks byte) x (y ∷ list) lack)))

-- a line and a rest: the line comes first
pub first_line : (list : List (List ℕ)) (rest : List ℕ) → All (Lacks 10) list →
    lines (line list ++ rest) ≡ join_with_byte 32 list ∷ lines rest
unfolding line
first_line list rest lack =
    ap lines (append_assoc (join_with_byte 32 list) (10 ∷ []) rest)
    ∙ slice_split_at (λ b. eqb b 10) (join_with_byte 32 list) 10 rest
    (joined_lacks 10 list refl lack) refl
