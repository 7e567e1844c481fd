-- Entries cut into rows, and rows end to end.
use Rattle.std.proofs.Common.{List, ap, arith, drop, get_or, length, pos, refl, subst, suc, sym, take, zero, ℕ, ℤ, ◌*◌, ◌++◌, ◌+◌, ◌<◌, ◌∙◌, ◌≡◌}
use Rattle.std.proofs.lemmas.List.{drop-drop, get_or-drop, get_or-take, length-drop, length-take, nil_from_length, take-append-drop}
use Rattle.std.proofs.lemmas.List.Elements.{All-drop, All-from_recursion, All-take}
use Rattle.std.specs.List.{All, AllByRecursion, flat_map}
use Rattle.mb_tables.specs.Rows.{rows_of}

-- there are as many rows as asked
pub length-rows_of : (width count : ℕ) (entries : List ℤ) →
    length (rows_of width count entries) ≡ count
unfolding rows_of
length-rows_of width zero entries = refl
length-rows_of width (suc count) entries =
    ap suc (length-rows_of width count (drop width entries))

-- a row has the entries from its place on
pub get_or-rows_of : (width count : ℕ) (entries : List ℤ) (i : ℕ) (d : List ℤ) → i < count →
    get_or (rows_of width count entries) i d ≡ take width (drop (i * width) entries)
unfolding rows_of
get_or-rows_of width zero entries i d l = absurd (omega arith)
get_or-rows_of width (suc count) entries zero d l =
    let none : 0 ≡ 0 * width = omega arith in ap (λ n. take width (drop n entries)) none
get_or-rows_of width (suc count) entries (suc i) d l =
    let next : width + i * width ≡ suc i * width = omega arith in
    get_or-rows_of width count (drop width entries) i d (omega arith)
    ∙ ap (take width) (drop-drop (i * width) width entries)
    ∙ ap (λ n. take width (drop n entries)) next

-- an entry of a row, among all entries
pub entry-rows_of : (width count : ℕ) (entries : List ℤ) (i j : ℕ) (d : List ℤ) → i < count →
    j < width →
    get_or (get_or (rows_of width count entries) i d) j (pos 0)
    ≡ get_or entries (i * width + j) (pos 0)
entry-rows_of width count entries i j d l m =
    ap (λ row. get_or row j (pos 0)) (get_or-rows_of width count entries i d l)
    ∙ get_or-take width (drop (i * width) entries) j (pos 0) m
    ∙ get_or-drop (i * width) entries j (pos 0)

-- what is left after the first row is that many entries less
left_full : (width count : ℕ) (entries : List ℤ) → length entries ≡ suc count * width →
    length (drop width entries) ≡ count * width
left_full width count entries full = omega (arith, length-drop width entries)

-- the rows end to end are the entries
pub flat_map-rows_of : (width count : ℕ) (entries : List ℤ) → length entries ≡ count * width →
    flat_map (λ (row : List ℤ). row) (rows_of width count entries) ≡ entries
unfolding rows_of
flat_map-rows_of width zero entries full = sym (nil_from_length entries (omega arith))
flat_map-rows_of width (suc count) entries full =
    ap (λ more. take width entries ++ more)
    (flat_map-rows_of width count (drop width entries) (left_full width count entries full))
    ∙ take-append-drop width entries

-- each row has the width, told by recursion
wide : (width count : ℕ) (entries : List ℤ) → length entries ≡ count * width →
    AllByRecursion (λ row. length row ≡ width) (rows_of width count entries)
unfolding rows_of
wide width zero entries full = tt
wide width (suc count) entries full = (
  omega (arith, length-take width entries),
  wide width count (drop width entries) (left_full width count entries full),
)

-- each row has the width
pub rows_wide : (width count : ℕ) (entries : List ℤ) → length entries ≡ count * width →
    All (λ row. length row ≡ width) (rows_of width count entries)
rows_wide width count entries full =
    All-from_recursion (λ row. length row ≡ width) (rows_of width count entries)
    (wide width count entries full)

-- what holds of each entry holds of each in the rows
pub rows_each : (P : ℤ → Type 0) (width count : ℕ) (entries : List ℤ) → All P entries →
    All (λ row. All P row) (rows_of width count entries)
rows_each P width count entries each i d l =
    let many = length-rows_of width count entries in
    subst (All P) (sym (get_or-rows_of width count entries i d (omega arith)))
    (All-take P width (drop (i * width) entries) (All-drop P (i * width) entries each))
