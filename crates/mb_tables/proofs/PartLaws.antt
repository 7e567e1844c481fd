-- Laws of the entries that the parts of a move make.
use Rattle.std.proofs.Common.{All, List, [], ap, arith, get_or, length, pos, refl, replicate, suc, sym, zero, ℕ, ℤ, ◌+ℤ◌, ◌<◌, ◌∙◌, ◌∷◌, ◌≡◌}
use Rattle.std.proofs.lemmas.Int.{ints}
use Rattle.std.proofs.lemmas.List.{length-replicate}
use Rattle.std.proofs.lemmas.List.Elements.{All-from_recursion, All-head, All-tail, recursion_from_All}
use Rattle.std.specs.List.{AllByRecursion}
use Rattle.mb_tables.specs.declared.part.Part.{Part}
use Rattle.mb_tables.specs.loops.Parts.{AreApart, add_at, entries_of}

-- as many numbers as before
pub length-add_at : (k : ℕ) (z : ℤ) (xs : List ℤ) → length (add_at k z xs) ≡ length xs
unfolding add_at
length-add_at k z [] = refl
length-add_at zero z (x ∷ xs) = refl
length-add_at (suc k) z (x ∷ xs) = ap suc (length-add_at k z xs)

-- the number added at its place
pub add_at-here : (k : ℕ) (z : ℤ) (xs : List ℤ) → k < length xs →
    get_or (add_at k z xs) k (pos 0) ≡ (get_or xs k (pos 0) +ℤ z)
unfolding add_at
add_at-here k z [] l = absurd (omega arith)
add_at-here zero z (x ∷ xs) l = refl
add_at-here (suc k) z (x ∷ xs) l = add_at-here k z xs (omega arith)

-- and nothing at another
pub add_at-other : (k j : ℕ) (z : ℤ) (xs : List ℤ) → (k ≡ j → ⊥) →
    get_or (add_at k z xs) j (pos 0) ≡ get_or xs j (pos 0)
unfolding add_at
add_at-other k j z [] n = refl
add_at-other zero zero z (x ∷ xs) n = absurd (n refl)
add_at-other zero (suc j) z (x ∷ xs) n = refl
add_at-other (suc k) zero z (x ∷ xs) n = refl
add_at-other (suc k) (suc j) z (x ∷ xs) n = add_at-other k j z xs (λ e. n (ap suc e))

-- a list of zeros has 0 at each place
at-none : (n k : ℕ) → get_or (replicate n (pos 0)) k (pos 0) ≡ pos 0
at-none zero k = refl
at-none (suc n) zero = refl
at-none (suc n) (suc k) = at-none n k

-- there is one entry a cell
pub length-entries_of : (cells : ℕ) (parts : List Part) → length (entries_of cells parts) ≡ cells
unfolding entries_of
length-entries_of cells [] = length-replicate cells (pos 0)
length-entries_of cells (part ∷ parts) =
    length-add_at part.cell part.entry (entries_of cells parts) ∙ length-entries_of cells parts

-- the entry of a cell without a part is 0
pub entries_of-other : (cells k : ℕ) (parts : List Part) →
    AllByRecursion (λ part. part.cell ≡ k → ⊥) parts →
    get_or (entries_of cells parts) k (pos 0) ≡ pos 0
unfolding entries_of
entries_of-other cells k [] h = at-none cells k
entries_of-other cells k (part ∷ parts) h =
    add_at-other part.cell k part.entry (entries_of cells parts) h.0
    ∙ entries_of-other cells k parts h.1

-- the same, told the other way round
flipped : (k : ℕ) (parts : List Part) → AllByRecursion (λ part. k ≡ part.cell → ⊥) parts →
    AllByRecursion (λ part. part.cell ≡ k → ⊥) parts
flipped k [] h = tt
flipped k (part ∷ parts) h = ((λ e. h.0 (sym e)), flipped k parts h.1)

-- the cell of a later part is another one
pub cells-differ : (parts : List Part) → AreApart parts → (p q : ℕ) (d e : Part) → p < q →
    q < length parts → (get_or parts p d).cell ≡ (get_or parts q e).cell → ⊥
unfolding AreApart
cells-differ [] a p q d e l m f = omega arith
cells-differ (part ∷ parts) a p zero d e l m f = omega arith
cells-differ (part ∷ parts) a zero (suc q) d e l m f =
    All-from_recursion (λ other. part.cell ≡ other.cell → ⊥) parts a.0 q e (omega arith) f
cells-differ (part ∷ parts) a (suc p) (suc q) d e l m f =
    cells-differ parts a.1 p q d e (omega arith) (omega arith) f

-- the entry at the cell of a part is that of the part
pub entries_of-part : (cells : ℕ) (parts : List Part) → AreApart parts →
    All (λ part. part.cell < cells) parts → (q : ℕ) (d : Part) → q < length parts →
    get_or (entries_of cells parts) (get_or parts q d).cell (pos 0) ≡ (get_or parts q d).entry
unfolding AreApart entries_of
entries_of-part cells [] a w q d l = absurd (omega arith)
entries_of-part cells (part ∷ parts) a w zero d l =
    let long = length-entries_of cells parts in
    let here : part.cell < cells = All-head (λ p. p.cell < cells) part parts w in
    let e = add_at-here part.cell part.entry (entries_of cells parts) (omega arith) in
    let f = entries_of-other cells part.cell parts (flipped part.cell parts a.0) in
    omega (arith, ints)
entries_of-part cells (part ∷ parts) a w (suc q) d l =
    add_at-other part.cell (get_or parts q d).cell part.entry (entries_of cells parts)
    (All-from_recursion (λ other. part.cell ≡ other.cell → ⊥) parts a.0 q d (omega arith))
    ∙ entries_of-part cells parts a.1 (All-tail (λ p. p.cell < cells) part parts w) q d
    (omega arith)

-- the entry of a cell that no part has is 0
pub no_part : (cells k : ℕ) (parts : List Part) →
    ((q : ℕ) (d : Part) → q < length parts → (get_or parts q d).cell ≡ k → ⊥) →
    get_or (entries_of cells parts) k (pos 0) ≡ pos 0
no_part cells k parts h =
    entries_of-other cells k parts
    (recursion_from_All (λ part. part.cell ≡ k → ⊥) parts h)

-- there is no number behind the last cell, so the entries seen are as many as the cells
pub cells-seen : (cells : ℕ) (parts : List Part) (move : List ℤ) →
    entries_of cells parts ≡ move → cells ≡ length move
cells-seen cells parts move seen = sym (length-entries_of cells parts) ∙ ap length seen

-- the entries that are seen of a move, from the parts that are kept
pub parts-seen : (cells : ℕ) (parts given : List Part) (move : List ℤ) →
    entries_of cells parts ≡ move → given ≡ parts → move ≡ entries_of (length move) given
parts-seen cells parts given move seen e =
    sym seen
    ∙ ap (λ n. entries_of n parts) (cells-seen cells parts move seen)
    ∙ ap (entries_of (length move)) (sym e)

-- each part has one of the cells that are seen
pub within-seen : (cells : ℕ) (parts given : List Part) (move : List ℤ) →
    entries_of cells parts ≡ move → given ≡ parts → All (λ part. part.cell < cells) parts →
    All (λ part. part.cell < length move) given
within-seen cells parts given move seen e within =
    rw (e, ← cells-seen cells parts move seen) within
