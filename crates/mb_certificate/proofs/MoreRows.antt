-- One row more of rows that stand end to end, and one rule more of a list.
use Rattle.std.proofs.Common.{All, List, [], ap, arith, drop, length, length-append, length-drop, map, subst, suc, sym, take, zero, ℕ, ℤ, ◌*◌, ◌++◌, ◌+◌, ◌∙◌, ◌∷◌, ◌≡◌, ◌≤◌}
use Rattle.std.proofs.lemmas.List.{drop-append-le, map-append, take-append-le, take_all}
use Rattle.std.proofs.lemmas.List.Elements.{All-append, All-from_recursion}
use Rattle.mb_certificate.specs.Sides.{PairSuits, sides}
use Rattle.mb_certificate.specs.declared.parts.Pair.{Pair}
use Rattle.mb_matrix.specs.Matrix.{Design}
use Rattle.mb_tables.specs.Rows.{rows_of}

-- the rows of entries, and those of the entries with one row more
pub rows_more : (width count : ℕ) (entries row : List ℤ) → length entries ≡ count * width →
    length row ≡ width →
    rows_of width (suc count) (entries ++ row) ≡ rows_of width count entries ++ row ∷ []
unfolding rows_of
rows_more width zero [] row full wide =
    ap (λ r. r ∷ []) (take_all width row (omega arith))
rows_more width zero (x ∷ entries) row full wide = absurd (omega arith)
rows_more width (suc count) entries row full wide =
    let enough : width ≤ length entries = omega arith in
    let left : length (drop width entries) ≡ count * width =
    length-drop width entries ∙ omega arith in
    ap (λ r. r ∷ rows_of width (suc count) (drop width (entries ++ row)))
    (take-append-le width entries row enough)
    ∙ ap (λ l. take width entries ∷ rows_of width (suc count) l)
    (drop-append-le width entries row enough)
    ∙ ap (λ rows. take width entries ∷ rows)
    (rows_more width count (drop width entries) row left wide)

-- the same by a count that goes up
pub rows_on : (width count : ℕ) (entries row list : List ℤ) → length entries ≡ count * width →
    length row ≡ width → list ≡ entries ++ row →
    rows_of width (count + 1) list ≡ rows_of width count entries ++ row ∷ []
rows_on width count entries row list full wide is =
    let next : count + 1 ≡ suc count = omega arith in
    ap (rows_of width (count + 1)) is
    ∙ ap (λ n. rows_of width n (entries ++ row)) next
    ∙ rows_more width count entries row full wide

-- and there are as many entries
pub full_on : (width count : ℕ) (entries row list : List ℤ) → length entries ≡ count * width →
    length row ≡ width → list ≡ entries ++ row → length list ≡ (count + 1) * width
full_on width count entries row list full wide is =
    ap length is ∙ length-append entries row ∙ omega arith

-- both sides of one rule more
pub sides_on : (list front : List Pair) (pair : Pair) → list ≡ front ++ pair ∷ [] →
    map sides list ≡ map sides front ++ sides pair ∷ []
sides_on list front pair is = ap (map sides) is ∙ map-append sides front (pair ∷ [])

-- which have the matrix's shape
pub shapes_on : (matrix : Design) (list front : List Pair) (pair : Pair) →
    All (PairSuits matrix) front → PairSuits matrix pair → list ≡ front ++ pair ∷ [] →
    All (PairSuits matrix) list
shapes_on matrix list front pair before is e =
    subst (All (PairSuits matrix)) (sym e)
    (All-append (PairSuits matrix) front (pair ∷ []) before
    (All-from_recursion (PairSuits matrix) (pair ∷ []) (is, tt)))
