-- Lines that are written are read, and what is read is what is written.
use Rattle.std.proofs.Common.{List, None, Ok, Option, Result, Some, [], ap, append_assoc, arith, codes, length, refl, sym, true, ℕ, ◌++◌, ◌<◌, ◌∙◌, ◌∷◌, ◌≡◌}
use Rattle.std.proofs.lemmas.List.Splits.{join_with_byte-slice_split}
use Rattle.std.specs.List.{join_with_byte}
use Rattle.std.specs.Option.{option_map}
use Rattle.mb_tables.specs.Answers.{◌>>=◌}
use Rattle.mb_text.proofs.ItemBytes.{are_items, no_end}
use Rattle.mb_text.proofs.PieceCases.{some_piece}
use Rattle.mb_text.proofs.PieceLaws.{first_line as line_cut}
use Rattle.mb_text.specs.Faults.{in_line}
use Rattle.mb_text.specs.Lines.{items, line, lines}
use Rattle.mb_text.specs.RecordLines.{ends, first_line, says}

-- what the next line is read as, where it was written so
pub says_written : {A : Type 0} (number : ℕ) (read : List ℕ → Option A) (list : List (List ℕ))
    (rest : List ℕ) (x : A) → are_items list ≡ true →
    read (join_with_byte 32 list) ≡ Some x →
    says number read (lines (line list ++ rest)) ≡ Ok (x, lines rest)
unfolding says
says_written {A} number read list rest x e r =
    ap (λ all. first_line number all >>= on) (line_cut list rest (no_end list e))
    ∙ by (lines rest) (some_piece 10 rest)
  where
    on : List ℕ × List (List ℕ) → Result (A × List (List ℕ)) ℕ
    on p = in_line number (option_map (λ x. (x, p.1)) (read p.0))

    by : (others : List (List ℕ)) → 0 < length others →
        (first_line number (join_with_byte 32 list ∷ others) >>= on) ≡ Ok (x, others)
    by [] l = absurd (omega arith)
    by (next ∷ others) l = ap (λ o. in_line number (option_map (λ x. (x, next ∷ others)) o)) r

-- a line that was read, and what follows it
pub record LineRead {A : Type 0} (read : List ℕ → Option A) (pieces : List (List ℕ)) (x : A)
    (rest : List (List ℕ)) : Type 0 where
  pub first : List ℕ
  pub is_read : read first ≡ Some x
  pub joined : join_with_byte 10 pieces ≡ first ++ 10 ∷ join_with_byte 10 rest

-- so is each line that says something
pub says_read : {A : Type 0} (number : ℕ) (read : List ℕ → Option A) (pieces : List (List ℕ))
    (x : A) (rest : List (List ℕ)) → says number read pieces ≡ Ok (x, rest) →
    LineRead read pieces x rest
unfolding says
says_read number read [] x rest e = absurd cc
says_read number read (first ∷ []) x rest e = absurd cc
says_read {A} number read (first ∷ next ∷ others) x rest e = by (read first) refl e
  where
    by : (found : Option A) → read first ≡ found →
        in_line {A = A × List (List ℕ)} number (option_map (λ x. (x, next ∷ others)) found)
        ≡ Ok (x, rest) →
        LineRead read (first ∷ next ∷ others) x rest
    by None r f = absurd cc
    by (Some y) r f =
        let both : (y, next ∷ others) ≡ (x, rest) = cc in
        let same = ap (λ (p : A × List (List ℕ)). p.0) both in
        let after = ap (λ (p : A × List (List ℕ)). p.1) both in
        record {
          first = first;
          is_read = r ∙ ap Some same;
          joined = ap (λ ps. first ++ 10 ∷ join_with_byte 10 ps) after;
        }

-- a line of these items and what follows it
pub line_joined : (first : List ℕ) (list : List (List ℕ)) (rest : List ℕ) →
    items first ≡ list → first ++ 10 ∷ rest ≡ line list ++ rest
unfolding line
line_joined first list rest e =
    ap (λ text. text ++ 10 ∷ rest)
    (sym (join_with_byte-slice_split 32 first) ∙ ap (join_with_byte 32) e)
    ∙ sym (append_assoc (join_with_byte 32 list) (10 ∷ []) rest)

-- a line of these items
pub line_is : {A : Type 0} {read : List ℕ → Option A} {pieces : List (List ℕ)} {x : A}
    {rest : List (List ℕ)} (found : LineRead read pieces x rest) (list : List (List ℕ)) →
    items found.first ≡ list →
    join_with_byte 10 pieces ≡ line list ++ join_with_byte 10 rest
line_is {rest = rest} found list e =
    found.joined ∙ line_joined found.first list (join_with_byte 10 rest) e

-- where a text ends, one empty piece is left
pub ends_read : (number : ℕ) (pieces : List (List ℕ)) (x : Unit {0}) → ends number pieces ≡ Ok x →
    pieces ≡ [] ∷ []
ends_read number [] x e = absurd cc
ends_read number ([] ∷ []) x e = refl
ends_read number ([] ∷ (next ∷ others)) x e = absurd cc
ends_read number ((b ∷ line) ∷ others) x e = absurd cc

-- the last line of a record
pub end_line : codes "end\n" ≡ line (codes "end" ∷ [])
unfolding line
end_line = refl
