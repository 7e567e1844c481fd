-- Lines that are written one after the other.
use Rattle.std.proofs.Common.{List, Some, [], ap, length, slice_get, sym, take, ℕ, ℤ, ◌+◌, ◌++◌, ◌<◌, ◌≡◌, ◌∙◌, ◌∷◌}
use Rattle.std.proofs.lemmas.List.{flat_map_more, take_more}
use Rattle.std.proofs.lemmas.Option.{get_or_from_slice_get}
use Rattle.std.specs.List.{flat_map}
use Rattle.mb_moves.specs.Written.{number_line}

-- the line of a further row
pub line_more : (front out new : List ℕ) (rows : List (List ℤ)) (i : ℕ) (row : List ℤ) →
    out ≡ front ++ flat_map number_line (take i rows) → new ≡ out ++ number_line row →
    slice_get rows i ≡ Some row → i < length rows →
    new ≡ front ++ flat_map number_line (take (i + 1) rows)
line_more front out new rows i row so_far e there l =
    e
    ∙ ap (λ (text : List ℕ). text ++ number_line row) so_far
    ∙ flat_map_more number_line front (take i rows) row
    ∙ ap (λ r. front ++ flat_map number_line (take i rows ++ r ∷ []))
    (sym (get_or_from_slice_get rows i row row there))
    ∙ ap (λ r. front ++ flat_map number_line r) (sym (take_more rows i row l))
