-- The peel of a matrix is triangular and has each cell once.
use Rattle.std.proofs.Common.{List, [], ap, arith, eq-eqb, inl, inr, length, nat_eq, not, refl, subst, suc, sym, zero, ℕ, ◌<◌, ◌∷◌, ◌≡◌, ◌≢◌, ◌≤◌}
use Rattle.std.proofs.lemmas.Bool.{cases_Bool, cases_eq, ltb-false}
use Rattle.mb_matrix.specs.declared.peel.Peeled.{Peeled}
use Rattle.mb_matrix.specs.declared.peel.Peeled.TheVariants.{Decided, Free}
use Rattle.mb_matrix.specs.Matrix.{Design, row_of}
use Rattle.mb_matrix.specs.Peel.{IsTriangular, Rises, cell_of, peeled_cells, counted_by, counts_cell, free_of, next_step, peel_from, without}
use Rattle.mb_matrix.proofs.CellLists.{In-filter_yes, length-filter_less, rises-filter, stays}
use Rattle.mb_matrix.proofs.Determined.{decides_counted, next_step-cases, next_step-in, only_cell}
use Rattle.mb_matrix.proofs.FreeCells.{peel-in}
use Rattle.mb_tables.proofs.ListLaws.{In-filter_only, In-map_range}
use Rattle.mb_tables.specs.Lists.{In}
use Rattle.mb_tables.specs.Vectors.{at}

-- the cells of the steps are among those left
pub cells-in : (matrix : Design) (room : ℕ) (left : List ℕ) (cell : ℕ) →
    In cell (peeled_cells (peel_from matrix room left)) → In cell left
cells-in matrix room left cell i =
    let r = In-map_range cell_of cell (peel_from matrix room left) i in
    subst (λ c. In c left) (sym r.2) (peel-in matrix room left r.0 r.1)

-- a cell that is taken out isn't left
pub taken_out : (cell : ℕ) (left : List ℕ) → In cell (without cell left) → ⊥
taken_out cell left i =
    let e = In-filter_yes (λ k. not (nat_eq k cell)) cell left i in
    let f = ap not (eq-eqb cell cell refl) in
    cc

-- the cells of later steps are left, and not the one that is taken out
later_cell : (matrix : Design) (room : ℕ) (left : List ℕ) (cell k : ℕ) →
    In k (peeled_cells (peel_from matrix room (without cell left))) → In k left × (k ≢ cell)
later_cell matrix room left cell k i =
    let j = cells-in matrix room (without cell left) k i in (
      In-filter_only (λ c. not (nat_eq c cell)) k left j,
      λ e. taken_out cell left (subst (λ c. In c (without cell left)) e j),
    )

-- a row that decides a cell has 0 at the cells of later steps
later_zero : (matrix : Design) (room : ℕ) (left : List ℕ) (row cell k : ℕ) →
    counted_by matrix row left ≡ cell ∷ [] →
    In k (peeled_cells (peel_from matrix room (without cell left))) → at (row_of matrix row) k ≡ 0
later_zero matrix room left row cell k alone i =
    let later = later_cell matrix room left cell k i in
    elim (cases_Bool (counts_cell matrix row k)) [
      | inl t ↦ absurd (later.1 (only_cell matrix left row cell k alone later.0 t))
      | inr f ↦ let e = ltb-false 0 (at (row_of matrix row) k) f in omega arith
    ]

-- steps from a list of cells left are triangular
pub triangular : (matrix : Design) (room : ℕ) (left : List ℕ) →
    IsTriangular matrix (peel_from matrix room left)
unfolding peel_from IsTriangular
triangular matrix zero left = tt
triangular matrix (suc room) [] = tt
triangular matrix (suc room) (lowest ∷ others) =
    let left = lowest ∷ others in
    elim (next_step-cases matrix lowest others) [
      | inl d ↦
          subst
          (λ s. IsTriangular matrix
          (s ∷ peel_from matrix room (without (cell_of s) (lowest ∷ others))))
          (sym d.is) (
            (λ i. taken_out d.cell left (cells-in matrix room (without d.cell left) d.cell i)),
            d.within,
            decides_counted matrix left d.row d.cell d.alone,
            (λ k i. later_zero matrix room left d.row d.cell k d.alone i),
            triangular matrix room (without d.cell left),
          )
      | inr g ↦
          subst
          (λ s. IsTriangular matrix
          (s ∷ peel_from matrix room (without (cell_of s) (lowest ∷ others))))
          (sym g) (
            (λ i. taken_out lowest left (cells-in matrix room (without lowest left) lowest i)),
            triangular matrix room (without lowest left),
          )
    ]

-- each cell left has a step, where there is room
pub cells-all : (matrix : Design) (room : ℕ) (left : List ℕ) (cell : ℕ) → length left ≤ room →
    In cell left → In cell (peeled_cells (peel_from matrix room left))
unfolding peel_from In
cells-all matrix zero [] cell h i = absurd i
cells-all matrix zero (lowest ∷ others) cell h i = absurd (omega arith)
cells-all matrix (suc room) [] cell h i = absurd i
cells-all matrix (suc room) (lowest ∷ others) cell h i =
    let step = next_step matrix lowest others in
    let less : length (without (cell_of step) (lowest ∷ others)) < length (lowest ∷ others) =
    length-filter_less (λ k. not (nat_eq k (cell_of step))) (cell_of step) (lowest ∷ others)
    (next_step-in matrix lowest others) (ap not (eq-eqb (cell_of step) (cell_of step) refl)) in
    elim (cases_eq cell (cell_of step)) [
      | inl e ↦ inl e
      | inr n ↦ inr (cells-all matrix room (without (cell_of step) (lowest ∷ others)) cell
          (omega arith) (stays (cell_of step) cell (lowest ∷ others) n i))
    ]

-- a free cell of steps is the cell of one
pub free-cell : (steps : List Peeled) (cell : ℕ) → In cell (free_of steps) →
    In cell (peeled_cells steps)
unfolding In free_of
free-cell [] cell i = absurd i
free-cell (Decided c row ∷ steps) cell i = inr (free-cell steps cell i)
free-cell (Free c ∷ steps) cell (inl e) = inl e
free-cell (Free c ∷ steps) cell (inr i) = inr (free-cell steps cell i)

-- the free cells rise where the cells left do
pub free-rises : (matrix : Design) (room : ℕ) (left : List ℕ) → Rises left →
    Rises (free_of (peel_from matrix room left))
unfolding peel_from free_of Rises In
free-rises matrix zero left r = tt
free-rises matrix (suc room) [] r = tt
free-rises matrix (suc room) (lowest ∷ others) r =
    let left = lowest ∷ others in
    elim (next_step-cases matrix lowest others) [
      | inl d ↦
          subst
          (λ s. Rises (free_of (s ∷ peel_from matrix room (without (cell_of s) (lowest ∷ others)))))
          (sym d.is)
          (free-rises matrix room (without d.cell left)
          (rises-filter (λ k. not (nat_eq k d.cell)) left r))
      | inr g ↦
          subst
          (λ s. Rises (free_of (s ∷ peel_from matrix room (without (cell_of s) (lowest ∷ others)))))
          (sym g) (
            (λ k i.
                let later = later_cell matrix room left lowest k
                (free-cell (peel_from matrix room (without lowest left)) k i) in
                elim later.0 [ inl e ↦ absurd (later.1 e) | inr j ↦ r.0 k j ]),
            free-rises matrix room (without lowest left)
                (rises-filter (λ k. not (nat_eq k lowest)) left r),
          )
    ]
