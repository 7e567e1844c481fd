-- The model of independence on 4 x 4 tables, worked out: its array is a design matrix, and its
-- scale and base are a measure on it.
use Rattle.std.proofs.Common.{All, List, Ok, Result, [], ap, arith, length, map, pos, refl, replicate, subst, suc, sum, sym, zero, ℕ, ℤ, ◌%◌, ◌*◌, ◌/◌, ◌+◌, ◌-◌, ◌<◌, ◌^◌, ◌∙◌, ◌∷◌, ◌≡◌, ◌≤◌}
use Rattle.std.proofs.lemmas.List.Sums.{sum-map, sum_by-cons}
use Rattle.std.proofs.lemmas.Nat.{pow-add}
use Rattle.std.specs.List.{range_with_len, sum_by}
use Rattle.mb_desk.specs.GenerateCommand.{digit, seed_table, square_matrix, square_measure}
use Rattle.mb_desk.specs.Independence.{independence, sampled_by_rows}
use Rattle.mb_desk.specs.loops.SquareEntries.{square_entry}
use Rattle.mb_matrix.proofs.MarginBounds.{margins_at_most}
use Rattle.mb_matrix.proofs.NoFault.{accepted, no_fault}
use Rattle.mb_matrix.specs.Faults.{fault_of, first_cell, matrix_of}
use Rattle.mb_matrix.specs.Limits.{largest_entry}
use Rattle.mb_matrix.specs.Matrix.{Design, IsDesign, design_of, margins_of}
use Rattle.mb_matrix.specs.Measure.{RowMargins, Weighting, measure_of}
use Rattle.mb_tables.proofs.RowsOfEntries.{rows_wide}
use Rattle.mb_tables.specs.Rows.{Rows, array_of, rows_of}
use Rattle.mb_tables.specs.Vectors.{all_zero, unit, zeros}

-- the entries that the program writes
pub square_entries : List ℤ
square_entries = map (λ place. pos (square_entry (place / 16) (place % 16))) (range_with_len 0 128)

-- the array that they are
abbrev square_array : Rows
square_array = array_of 16 8 square_entries

-- an answer has one value
one_value : {A F : Type 0} (x y : A) → ◌≡◌ {A = Result A F} (Ok x) (Ok y) → x ≡ y
one_value x y e = cc

-- it is the design matrix
pub square_made : matrix_of square_array ≡ Ok square_matrix
unfolding fault_of first_cell design_of rows_of independence unit zeros all_zero square_entries
square_made = refl

-- the entries of the program are these
pub entries-are : (entries : List ℤ) →
    entries ≡ map (λ place. pos (square_entry (place / 16) (place % 16))) (range_with_len 0 128) →
    entries ≡ square_entries
unfolding square_entries
entries-are entries e = e

-- a matrix that is made of them is the design matrix
pub made-as : (entries : List ℤ) (matrix : Design) → entries ≡ square_entries →
    matrix_of (array_of 16 8 entries) ≡ Ok matrix → matrix ≡ square_matrix
made-as entries matrix same e =
    let both : matrix_of square_array ≡ Ok matrix =
    ap (λ list. matrix_of (array_of 16 8 list)) (sym same) ∙ e in
    one_value matrix square_matrix (sym both ∙ square_made)

-- which has 1 to 64 rows and cells, and no column of zeros
pub square_design : IsDesign square_matrix
unfolding square_entries
square_design =
    let taken = accepted square_array square_matrix square_made in
    let known = no_fault square_array (rows_wide 16 8 square_entries refl) taken.0 in
    subst IsDesign (sym taken.1) known.design

-- the scale and the base are a measure on it
pub square_measured : measure_of square_matrix (RowMargins (1 ∷ 2 ∷ 3 ∷ 4 ∷ [])) (replicate 16 1)
    ≡ Ok square_measure
unfolding independence sampled_by_rows unit zeros
square_measured = refl

-- a measure that is made of them is this
pub measured-as : (matrix : Design) (rows : List ℕ) (measure : Weighting) →
    matrix ≡ square_matrix → rows ≡ 1 ∷ 2 ∷ 3 ∷ 4 ∷ [] →
    measure_of matrix (RowMargins rows) (replicate 16 1) ≡ Ok measure → measure ≡ square_measure
measured-as matrix rows measure m r e =
    let both : measure_of square_matrix (RowMargins (1 ∷ 2 ∷ 3 ∷ 4 ∷ [])) (replicate 16 1)
    ≡ Ok measure =
    ap (λ list. measure_of square_matrix (RowMargins list) (replicate 16 1)) (sym r)
    ∙ ap (λ (x : Design). measure_of x (RowMargins rows) (replicate 16 1)) (sym m) ∙ e in
    one_value measure square_measure (sym both ∙ square_measured)

-- a table of a seed has the cells of the matrix
pub table_cells : (seed : ℕ) → length (seed_table seed) ≡ length square_matrix.columns
unfolding seed_table independence unit zeros
table_cells seed = refl

-- a digit is at most 2
digit-small : (number j : ℕ) → digit number j ≤ 2
digit-small number j = omega arith

-- numbers that are at most 2 add up to at most twice as many
small_sum : (f : ℕ → ℕ) → ((x : ℕ) → f x ≤ 2) → (xs : List ℕ) → sum_by f xs ≤ 2 * length xs
small_sum f small [] = omega arith
small_sum f small (x ∷ xs) =
    let e = sum_by-cons f x xs in
    let first = small x in
    let rest = small_sum f small xs in
    omega (arith, e, first, rest)

-- so the sum of the counts is at most 32
table_sum : (seed : ℕ) → sum (seed_table seed) ≤ 32
unfolding seed_table
table_sum seed =
    let e = sum-map (digit seed) (range_with_len 0 16) in
    let h = small_sum (digit seed) (digit-small seed) (range_with_len 0 16) in
    omega (arith, e, h)

-- and each margin fits 32 bits
pub table_margins : (seed : ℕ) →
    All (λ margin. margin < 2 ^ 32) (margins_of square_matrix (seed_table seed))
table_margins seed k d l =
    let bound = margins_at_most largest_entry square_matrix.rows square_matrix.columns
    (seed_table seed) square_design.small k d l in
    let total = table_sum seed in
    omega (arith, bound, total)

-- the table of a seed is its digits
pub seed_table-is : (seed : ℕ) → map (digit seed) (range_with_len 0 16) ≡ seed_table seed
unfolding seed_table
seed_table-is seed = refl

-- there are 16 cells
pub square_cells : (matrix : Design) → matrix ≡ square_matrix →
    length (replicate {A = ℕ} 16 1) ≡ length matrix.columns
unfolding independence unit zeros
square_cells matrix e = sym (ap (λ (m : Design). length m.columns) e)

-- one power more
power-step : (j : ℕ) → 3 ^ suc j ≡ 3 * 3 ^ j
power-step j =
    let more : suc j ≡ 1 + j = omega arith in ap (λ n. 3 ^ n) more ∙ pow-add 3 1 j

-- a power of 3 is not 0
pub power-some : (j : ℕ) → 1 ≤ 3 ^ j
power-some zero = omega arith
power-some (suc j) = let rest = power-some j in let e = power-step j in omega (arith, rest, e)

-- a number times one that isn't 0 is no smaller
grows : (x y : ℕ) → 1 ≤ y → x ≤ x * y
grows x zero l = absurd (omega arith)
grows x (suc y) l = omega arith

-- up to the 15th they fit 32 bits
pub power-fits : (j : ℕ) → j < 16 → 3 ^ j < 2 ^ 32
power-fits j l =
    let rest = 15 - j in
    let whole : j + rest ≡ 15 = omega arith in
    let product = pow-add 3 j rest in
    let most = ap (λ n. 3 ^ n) whole in
    let part = grows (3 ^ j) (3 ^ rest) (power-some rest) in
    omega (arith, product, most, part)
