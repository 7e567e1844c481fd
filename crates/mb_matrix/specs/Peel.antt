-- The peel of a design matrix (triangular determination): which cells of a table its margins
-- determine one after the other, by which rows and in which order, and which cells are free.
use Rattle.std.specs.List.{range_with_len}
use Rattle.std.specs.Option.{option_or}
use Rattle.std.specs.Prelude.{Bool, List, None, Option, Some, [], filter, length, map, nat_eq, nat_lt, not, suc, unwrap_or, zero, ℕ, ◌<◌, ◌∷◌, ◌≡◌}
use Rattle.mb_matrix.specs.Matrix.{Design, row_of}
use Rattle.mb_matrix.specs.Measure.{cells_of}
use Rattle.mb_matrix.specs.declared.peel.Peeled.{Peeled}
use Rattle.mb_matrix.specs.declared.peel.Peeled.TheVariants.{Decided, Free}
use Rattle.mb_tables.specs.Lists.{In}
use Rattle.mb_tables.specs.Vectors.{at}

-- the cell of a step of the peel
abbrev pub cell_of : Peeled → ℕ
cell_of (Decided cell row) = cell
cell_of (Free cell) = cell

-- whether the row counts the cell: its entry there is above 0
abbrev pub counts_cell : Design → ℕ → ℕ → Bool
counts_cell matrix row cell = nat_lt 0 (at (row_of matrix row) cell)

-- the cells among those left that the row counts
abbrev pub counted_by : Design → ℕ → List ℕ → List ℕ
counted_by matrix row left = filter (λ cell. counts_cell matrix row cell) left

-- a row decides the cell that it counts alone
abbrev pub decides : ℕ → List ℕ → Option Peeled
decides row [] = None
decides row (cell ∷ []) = Some (Decided cell row)
decides row (cell ∷ next ∷ cells) = None

-- what the lowest row decides that counts one alone of the cells left; none where no row does
unfoldable pub first_decided : Design → List ℕ → List ℕ → Option Peeled
first_decided matrix left [] = None
first_decided matrix left (row ∷ rows) =
    option_or (decides row (counted_by matrix row left)) (first_decided matrix left rows)

-- the next step, where the lowest cell left and the others are given: the first decided cell,
-- and where there is none the lowest cell becomes free
abbrev pub next_step : Design → ℕ → List ℕ → Peeled
next_step matrix lowest others =
    unwrap_or (first_decided matrix (lowest ∷ others) (range_with_len 0 matrix.rows))
    (Free lowest)

-- the cells left but one
abbrev pub without : ℕ → List ℕ → List ℕ
without cell left = filter (λ k. not (nat_eq k cell)) left

-- a step, and then the steps that peel the cells that it leaves
abbrev pub step_then : (List ℕ → List Peeled) → List ℕ → Peeled → List Peeled
step_then rest left step = step ∷ rest (without (cell_of step) left)

-- the steps that peel the cells left, at most so many
unfoldable pub peel_from : Design → ℕ → List ℕ → List Peeled
peel_from matrix zero left = []
peel_from matrix (suc room) [] = []
peel_from matrix (suc room) (lowest ∷ others) =
    step_then (λ left. peel_from matrix room left) (lowest ∷ others)
    (next_step matrix lowest others)

-- the peel: at first all cells are left
abbrev pub peel_of : Design → List Peeled
peel_of matrix = peel_from matrix (length matrix.columns) (cells_of matrix)

-- the free cells of a peel, in its order
unfoldable pub free_of : List Peeled → List ℕ
free_of [] = []
free_of (Free cell ∷ steps) = cell ∷ free_of steps
free_of (Decided cell row ∷ steps) = free_of steps

-- the free cells of a matrix, in ascending order
abbrev pub free_cells : Design → List ℕ
free_cells matrix = free_of (peel_of matrix)

-- the cells of the steps of a peel, in its order
abbrev pub peeled_cells : List Peeled → List ℕ
peeled_cells steps = map cell_of steps

-- the steps are triangular: no cell comes twice, and a row that decides a cell counts it and none
-- of the cells of later steps
unfoldable pub IsTriangular : Design → List Peeled → Type 0
IsTriangular matrix [] = Unit {0}
IsTriangular matrix (Free cell ∷ steps) =
    (In cell (peeled_cells steps) → ⊥) × IsTriangular matrix steps
IsTriangular matrix (Decided cell row ∷ steps) =
    (In cell (peeled_cells steps) → ⊥)
    × (row < matrix.rows)
    × (0 < at (row_of matrix row) cell)
    × ((k : ℕ) → In k (peeled_cells steps) → at (row_of matrix row) k ≡ 0)
    × IsTriangular matrix steps

-- each cell is below all later ones
unfoldable pub Rises : List ℕ → Type 0
Rises [] = Unit {0}
Rises (cell ∷ cells) = ((k : ℕ) → In k cells → cell < k) × Rises cells
