-- The lines of a design matrix.
use Rattle.std.proofs.Common.{List, [], ap, append-nil, append_assoc, arith, length, map, pos, refl, sym, ℕ, ℤ, ◌++◌, ◌+◌, ◌∙◌, ◌∷◌, ◌≡◌}
use Rattle.std.proofs.lemmas.Grind.{flat_map-append}
use Rattle.std.proofs.lemmas.List.FromFn.{length-map-range_with_len, map-range_with_len_more}
use Rattle.std.proofs.lemmas.Simd.{map-map}
use Rattle.std.specs.Fmt.{decimal, signed_decimal}
use Rattle.std.specs.List.{flat_map, range_with_len}
use Rattle.mb_matrix.specs.Matrix.{Design, row_of, rows_in}
use Rattle.mb_moves.specs.Written.{matrix_file, number_line, row_lines, written}
use Rattle.mb_text.specs.Lines.{line}

-- a row is written behind those before it
pub row_written : (matrix : Design) (before a b row : List ℕ) (i : ℕ) →
    b ≡ a ++ line (map decimal row) →
    a ≡ before ++ flat_map line (map (λ i. map decimal (row_of matrix i)) (range_with_len 0 i)) →
    row ≡ row_of matrix i →
    b ≡ before
    ++ flat_map line (map (λ i. map decimal (row_of matrix i)) (range_with_len 0 (i + 1)))
row_written matrix before a b row i eb ea er =
    let items : ℕ → List (List ℕ) = λ i. map decimal (row_of matrix i) in
    let so_far = flat_map line (map items (range_with_len 0 i)) in
    eb ∙ ap (λ t. t ++ line (map decimal row)) ea
    ∙ ap (λ row. (before ++ so_far) ++ line (map decimal row)) er
    ∙ append_assoc before so_far (line (items i))
    ∙ ap (λ text. before ++ text)
    (sym (ap (flat_map line) (map-range_with_len_more items 0 i i (omega arith))
    ∙ flat_map-append line (map items (range_with_len 0 i)) (items i ∷ [])
    ∙ ap (λ text. so_far ++ text) (append-nil (line (items i)))))

-- maps by equal functions
same_maps : {X Y : Type 0} (f g : X → Y) → ((x : X) → f x ≡ g x) → (xs : List X) →
    map f xs ≡ map g xs
same_maps f g h [] = refl
same_maps f g h (x ∷ xs) =
    ap (λ y. y ∷ map f xs) (h x) ∙ ap (λ ys. g x ∷ ys) (same_maps f g h xs)

-- numbers from 0 on are written as those with a sign are
pub lines_of_rows : (matrix : Design) →
    map (map signed_decimal) (rows_in matrix) ≡ row_lines matrix
lines_of_rows matrix =
    map-map (map signed_decimal) (λ i. map pos (row_of matrix i)) (range_with_len 0 matrix.rows)
    ∙ same_maps (λ i. map signed_decimal (map pos (row_of matrix i)))
    (λ i. map decimal (row_of matrix i)) (λ i. map-map signed_decimal pos (row_of matrix i))
    (range_with_len 0 matrix.rows)

-- so are lines of them
lines_of : (rows : List (List ℤ)) → flat_map line (map (map signed_decimal) rows)
    ≡ flat_map number_line rows
lines_of [] = refl
lines_of (row ∷ rows) = ap (λ text. line (map signed_decimal row) ++ text) (lines_of rows)

-- the lines of the sizes and of the rows are the matrix file
pub file_written : (matrix : Design) (text : List ℕ) →
    text ≡ line (decimal matrix.rows ∷ decimal (length matrix.columns) ∷ [])
    ++ flat_map line (row_lines matrix) → text ≡ matrix_file matrix
unfolding written
file_written matrix text e =
    let sizes : ℕ → List ℕ = λ n. line (decimal n ∷ decimal (length matrix.columns) ∷ []) in
    e
    ∙ ap (λ list. sizes matrix.rows ++ flat_map line list) (sym (lines_of_rows matrix))
    ∙ ap (λ rows. sizes matrix.rows ++ rows) (lines_of (rows_in matrix))
    ∙ ap (λ n. sizes n ++ flat_map number_line (rows_in matrix))
    (sym (length-map-range_with_len (λ i. map pos (row_of matrix i)) 0 matrix.rows))
