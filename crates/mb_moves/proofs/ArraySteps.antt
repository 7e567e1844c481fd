-- Sizes, entries and the end of a text, put together.
use Rattle.std.proofs.Common.{Err, List, Ok, Option, Result, [], ap, arith, length, refl, sym, ℕ, ℤ, ◌*◌, ◌+◌, ◌++◌, ◌≡◌, ◌∙◌, ◌∷◌}
use Rattle.std.proofs.lemmas.List.{append-nil}
use Rattle.mb_tables.specs.Answers.{IsRefused, ◌>>=◌}
use Rattle.mb_tables.specs.Limits.{most_cells}
use Rattle.mb_tables.specs.Rows.{Rows, array_of}
use Rattle.mb_moves.proofs.EntrySteps.{in_front-in_front, refused_on}
use Rattle.mb_moves.proofs.RowsEndToEnd.{end_to_end, end_to_end-push}
use Rattle.mb_moves.specs.GridText.{array_in, entries_after, size_of}
use Rattle.mb_moves.specs.loops.Reads.{in_front}
use Rattle.mb_moves.specs.declared.fault.GridFault.{GridFault}
use Rattle.mb_moves.specs.declared.fault.GridFault.TheVariants.{NoSize}

-- the array of the sizes, and of the entries of these tokens
abbrev pub and_entries : List (List ℕ) → ℕ → ℕ → Result Rows GridFault
and_entries others count width =
    entries_after (count * width) 0 others >>= λ entries. Ok (array_of width count entries)

-- the same, where the second size is a token too
abbrev pub and_width : List ℕ → List (List ℕ) → ℕ → Result Rows GridFault
and_width second others count = size_of 1 most_cells second >>= and_entries others count

module _ (lowest highest : ℕ) where
  -- no token
  pub array_in-none : array_in lowest highest [] ≡ Err NoSize
  unfolding array_in
  array_in-none = refl

  -- one token
  pub array_in-one : (first : List ℕ) → array_in lowest highest (first ∷ []) ≡ Err NoSize
  unfolding array_in
  array_in-one first = refl

  module _ (first second : List ℕ) (others : List (List ℕ)) where
    -- two sizes
    pub array_in-sizes : (count width : ℕ) →
        size_of lowest highest first ≡ Ok count → size_of 1 most_cells second ≡ Ok width →
        array_in lowest highest (first ∷ second ∷ others) ≡ and_entries others count width
    unfolding array_in
    array_in-sizes count width e h =
        ap (λ (r : Result ℕ GridFault). r >>= and_width second others) e
        ∙ ap (λ (r : Result ℕ GridFault). r >>= and_entries others count) h

    -- the first token is no size
    pub array_in-count_fault : (fault : GridFault) → size_of lowest highest first ≡ Err fault →
        array_in lowest highest (first ∷ second ∷ others) ≡ Err fault
    unfolding array_in
    array_in-count_fault fault e =
        ap (λ (r : Result ℕ GridFault). r >>= and_width second others) e

    -- the second is none
    pub array_in-width_fault : (count : ℕ) (fault : GridFault) →
        size_of lowest highest first ≡ Ok count → size_of 1 most_cells second ≡ Err fault →
        array_in lowest highest (first ∷ second ∷ others) ≡ Err fault
    unfolding array_in
    array_in-width_fault count fault e h =
        ap (λ (r : Result ℕ GridFault). r >>= and_width second others) e
        ∙ ap (λ (r : Result ℕ GridFault). r >>= and_entries others count) h

-- what is made of all entries
module _ {Y : Type 0} (make : List ℤ → Y) (says : Result Y GridFault) (wanted : ℕ)
    (text : List (List ℕ))
    (is_all : says ≡ (entries_after wanted 0 text >>= λ zs. Ok (make zs))) where
  -- an entry has a fault
  pub entries_fault : (cause : Option GridFault) → IsRefused cause (entries_after wanted 0 text) →
      IsRefused cause says
  entries_fault cause h =
      refused_on cause (entries_after wanted 0 text) says h
      (λ fault e. is_all ∙ ap (λ (r : Result (List ℤ) GridFault). r >>= λ zs. Ok (make zs)) e)

  module _ (entries : List ℤ) (rest : List (List ℕ)) (full : length entries ≡ wanted)
      (is_front : entries_after wanted 0 text
      ≡ in_front entries (entries_after wanted (0 + length entries) rest)) where
    -- what is left once all entries were read
    from_end : says
        ≡ (in_front entries (entries_after wanted wanted rest) >>= λ zs. Ok (make zs))
    from_end =
        let at_end : 0 + length entries ≡ wanted = omega arith in
        is_all
        ∙ ap (λ (r : Result (List ℤ) GridFault). r >>= λ zs. Ok (make zs)) (is_front
        ∙ ap (λ n. in_front entries (entries_after wanted n rest)) at_end)

    -- nothing is left
    pub entries_read : entries_after wanted wanted rest ≡ Ok [] → says ≡ Ok (make entries)
    entries_read e =
        from_end
        ∙ ap (λ (r : Result (List ℤ) GridFault). in_front entries r >>= λ zs. Ok (make zs)) e
        ∙ ap (λ zs. Ok (make zs)) (append-nil entries)

    -- something is left
    pub end_fault : (cause : Option GridFault) →
        IsRefused cause (entries_after wanted wanted rest) → IsRefused cause says
    end_fault cause h =
        refused_on cause (entries_after wanted wanted rest) says h
        (λ fault e. from_end
        ∙ ap (λ (r : Result (List ℤ) GridFault). in_front entries r >>= λ zs. Ok (make zs)) e)

-- a row is read after others
pub row_read : (wanted found next : ℕ) (whole : Result (List ℤ) GridFault) (rows : List (List ℤ))
    (row : List ℤ) (text rest : List (List ℕ)) →
    whole ≡ in_front (end_to_end rows) (entries_after wanted found text) →
    entries_after wanted found text
    ≡ in_front row (entries_after wanted (found + length row) rest) →
    found + length row ≡ next →
    whole ≡ in_front (end_to_end (rows ++ row ∷ [])) (entries_after wanted next rest)
row_read wanted found next whole rows row text rest so_far cut size =
    so_far
    ∙ ap (in_front (end_to_end rows)) cut
    ∙ in_front-in_front (end_to_end rows) row (entries_after wanted (found + length row) rest)
    ∙ ap (λ front. in_front front (entries_after wanted (found + length row) rest))
    (sym (end_to_end-push rows row))
    ∙ ap (λ n. in_front (end_to_end (rows ++ row ∷ [])) (entries_after wanted n rest)) size
