-- The entries that the program keeps, row by row and without signs, against their array.
use Rattle.std.proofs.Common.{All, List, [], ap, arith, drop, false, get_or, inl, inr, length, length-drop, length-take, map, pos, refl, subst, sym, take, true, unsigned_abs, ℕ, ℤ, ◌*◌, ◌+◌, ◌-◌, ◌<◌, ◌∙◌, ◌∷◌, ◌≡◌, ◌≤◌}
use Rattle.std.proofs.lemmas.Bool.{cases_lt}
use Rattle.std.proofs.lemmas.List.{get_or-drop, get_or-map, get_or-take}
use Rattle.std.proofs.lemmas.List.Elements.{All-head, All-tail}
use Rattle.std.proofs.lemmas.Nat.{mul-add-lt, row_fits}
use Rattle.mb_matrix.proofs.RowsAndColumns.{at-column_of, at-row_of, length-column_of, length-columns, length-row_of, pos-unsigned_abs, rows-design_of}
use Rattle.mb_matrix.specs.Matrix.{Design, IsDesignEntry, column_of, row_of}
use Rattle.mb_matrix.specs.loops.Kept.{kept_array, kept_design}
use Rattle.mb_tables.proofs.RowsOfEntries.{entry-rows_of, length-rows_of}
use Rattle.mb_tables.proofs.VectorLaws.{all_zero-no, all_zero-places, same_places}
use Rattle.mb_tables.specs.Rows.{array_of}
use Rattle.mb_tables.specs.Vectors.{all_zero, at}

-- entries without their signs, none of them below 0, are the entries
map-pos-unsigned_abs : (entries : List ℤ) → All IsDesignEntry entries →
    map pos (map unsigned_abs entries) ≡ entries
map-pos-unsigned_abs [] h = refl
map-pos-unsigned_abs (entry ∷ entries) h =
    let e = pos-unsigned_abs entry (All-head IsDesignEntry entry entries h) in
    let f = map-pos-unsigned_abs entries (All-tail IsDesignEntry entry entries h) in
    cc

-- so the array that is kept of them is theirs
pub kept-is : (rows cols : ℕ) (entries : List ℤ) (numbers : List ℕ) → All IsDesignEntry entries →
    numbers ≡ map unsigned_abs entries → kept_array rows cols numbers ≡ array_of cols rows entries
kept-is rows cols entries numbers each e =
    ap (λ list. array_of cols rows (map pos list)) e
    ∙ ap (array_of cols rows) (map-pos-unsigned_abs entries each)

-- the kept array has as many rows
pub length-kept : (rows cols : ℕ) (entries : List ℕ) →
    length (kept_array rows cols entries).rows ≡ rows
length-kept rows cols entries = length-rows_of cols rows (map pos entries)

-- a place of a row and a cell is within the entries
place_within : (rows cols i j : ℕ) → i < rows → j < cols → i * cols + j < rows * cols
place_within rows cols i j h l = let e = mul-add-lt i cols j rows h l in omega arith

-- an entry of the kept array
kept-entry : (rows cols : ℕ) (entries : List ℕ) (i j : ℕ) → length entries ≡ rows * cols →
    i < rows → j < cols →
    unsigned_abs (get_or (get_or (kept_array rows cols entries).rows i []) j (pos 0))
    ≡ at entries (i * cols + j)
kept-entry rows cols entries i j full h l =
    ap unsigned_abs
    (entry-rows_of cols rows (map pos entries) i j [] h l
    ∙ get_or-map pos entries (i * cols + j) 0 (pos 0)
    (let e = place_within rows cols i j h l in omega arith))

-- the entry of a row at a cell
at-kept_row : (rows cols : ℕ) (entries : List ℕ) (i j : ℕ) → length entries ≡ rows * cols →
    i < rows → j < cols →
    at (row_of (kept_design rows cols entries) i) j ≡ at entries (i * cols + j)
at-kept_row rows cols entries i j full h l =
    at-row_of (kept_array rows cols entries) i j
    (let e = length-kept rows cols entries in omega arith) l
    ∙ kept-entry rows cols entries i j full h l

-- the entry of a column at a row
at-kept_column : (rows cols : ℕ) (entries : List ℕ) (j i : ℕ) → length entries ≡ rows * cols →
    i < rows → j < cols →
    at (column_of (kept_array rows cols entries).rows j) i ≡ at entries (i * cols + j)
at-kept_column rows cols entries j i full h l =
    at-column_of (kept_array rows cols entries).rows j i
    (let e = length-kept rows cols entries in omega arith)
    ∙ kept-entry rows cols entries i j full h l

-- the entries from the place of a row on, one a cell, are that row
row_is : (rows cols : ℕ) (entries : List ℕ) (i : ℕ) →
    length entries ≡ rows * cols → i < rows →
    take cols (drop (i * cols) entries) ≡ row_of (kept_design rows cols entries) i
row_is rows cols entries i full h =
    let room : i * cols + cols ≤ rows * cols = row_fits i cols rows cols h (omega arith) in
    let long : length (take cols (drop (i * cols) entries)) ≡ cols =
    omega (arith, length-take cols (drop (i * cols) entries), length-drop (i * cols) entries) in
    same_places (take cols (drop (i * cols) entries)) (row_of (kept_design rows cols entries) i)
    (long ∙ sym (length-row_of (kept_array rows cols entries) i))
    (λ j l.
    let m : j < cols = omega arith in
    get_or-take cols (drop (i * cols) entries) j 0 m
    ∙ get_or-drop (i * cols) entries j 0
    ∙ sym (at-kept_row rows cols entries i j full h m))

-- a column with 0 in each row is a zero column
pub zero_column : (rows cols : ℕ) (entries : List ℕ) (j : ℕ) → length entries ≡ rows * cols →
    j < cols → ((i : ℕ) → i < rows → at entries (i * cols + j) ≡ 0) →
    all_zero (column_of (kept_array rows cols entries).rows j) ≡ true
zero_column rows cols entries j full l h =
    let column = column_of (kept_array rows cols entries).rows j in
    all_zero-places column
    (λ i k.
    let m : i < rows =
    let e = length-column_of (kept_array rows cols entries).rows j in
    let f = length-kept rows cols entries in omega arith in
    at-kept_column rows cols entries j i full m l ∙ h i m)

-- a column with a number above 0 in some row is none
pub not_zero_column : (rows cols : ℕ) (entries : List ℕ) (j i : ℕ) →
    length entries ≡ rows * cols → j < cols → i < rows → 0 < at entries (i * cols + j) →
    all_zero (column_of (kept_array rows cols entries).rows j) ≡ false
not_zero_column rows cols entries j i full k h l =
    all_zero-no (column_of (kept_array rows cols entries).rows j) i
    (let e = at-kept_column rows cols entries j i full h k in omega arith)

-- what stands from the place of a row on is that row of the design that is seen
pub row_read : (rows cols : ℕ) (entries slice : List ℕ) (matrix : Design) (start i : ℕ) →
    kept_design rows cols entries ≡ matrix → slice ≡ entries → start ≡ i * cols + 0 →
    length entries ≡ rows * cols → i < matrix.rows →
    take (start + cols - start) (drop start slice) ≡ row_of matrix i
row_read rows cols entries slice matrix start i seen e f full h =
    let a : start + cols - start ≡ cols = omega arith in
    let b : start ≡ i * cols = omega arith in
    let l : i < rows =
    let g = ap (λ (m : Design). m.rows) seen in
    let k = rows-design_of (kept_array rows cols entries) in
    let n = length-kept rows cols entries in omega arith in
    rw (a, b, e) (row_is rows cols entries i full l ∙ ap (λ m. row_of m i) seen)

-- the columns of the design that is seen are as many as its cells
pub cells_read : (rows cols : ℕ) (entries : List ℕ) (matrix : Design) →
    kept_design rows cols entries ≡ matrix → cols ≡ length matrix.columns
cells_read rows cols entries matrix seen =
    sym (length-columns (kept_array rows cols entries))
    ∙ ap (λ (m : Design). length m.columns) seen

-- and its rows as many as the kept ones
pub rows_read : (rows cols : ℕ) (entries : List ℕ) (matrix : Design) →
    kept_design rows cols entries ≡ matrix → rows ≡ matrix.rows
rows_read rows cols entries matrix seen =
    sym (rows-design_of (kept_array rows cols entries) ∙ length-kept rows cols entries)
    ∙ ap (λ (m : Design). m.rows) seen

-- the slice of a row among entries
pub row_slice : (entries : List ℤ) (row cols start : ℕ) → start ≡ row * cols + 0 →
    take (start + cols - start) (drop start entries) ≡ take cols (drop (row * cols) entries)
row_slice entries row cols start e =
    let a : start + cols - start ≡ cols = omega arith in
    let b : start ≡ row * cols = omega arith in
    rw (a, b) refl

-- what holds of the entries of the first rows and of those of the next one
pub row_more : (P : ℤ → Type 0) (entries : List ℤ) (row cols start : ℕ) →
    start ≡ row * cols + 0 → (row + 1) * cols ≤ length entries →
    ((k : ℕ) → k < row * cols → P (get_or entries k (pos 0))) →
    All P (take (start + cols - start) (drop start entries)) →
    (k : ℕ) → k < (row + 1) * cols → P (get_or entries k (pos 0))
row_more P entries row cols start e room before here k l =
    elim (cases_lt k (row * cols)) [
      | inl m ↦ before k m
      | inr m ↦
          let j : row * cols + (k - row * cols) ≡ k = omega arith in
          let n : k - row * cols < cols = omega arith in
          let row_here = subst (All P) (row_slice entries row cols start e) here in
          let long : k - row * cols < length (take cols (drop (row * cols) entries)) =
          omega (
            arith,
            length-take cols (drop (row * cols) entries),
            length-drop (row * cols) entries,
          ) in
          subst (λ i. P (get_or entries i (pos 0))) j
          (subst P
          (get_or-take cols (drop (row * cols) entries) (k - row * cols) (pos 0) n
          ∙ get_or-drop (row * cols) entries (k - row * cols) (pos 0))
          (row_here (k - row * cols) (pos 0) long))
    ]
