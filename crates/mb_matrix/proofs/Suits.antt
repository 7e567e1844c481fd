-- The tables of a fiber suit the digits of its margins.
use Rattle.std.proofs.Common.{All, List, [], ap, arith, get_or, length, min, subst, suc, sym, zero, ℕ, ◌*◌, ◌<◌, ◌∙◌, ◌∷◌, ◌≡◌, ◌≤◌}
use Rattle.std.proofs.lemmas.List.{get_or-map, length-map}
use Rattle.std.proofs.lemmas.List.Elements.{All-from_recursion}
use Rattle.std.proofs.lemmas.Nat.{le-div}
use Rattle.std.proofs.Math.Nat.{mul_comm}
use Rattle.std.specs.List.{AllByRecursion, fold}
use Rattle.mb_matrix.specs.Fiber.{IsColumn}
use Rattle.mb_matrix.specs.Key.{Suits, bound_of, digit_of, digits_of, key_of, least, quotients}
use Rattle.mb_matrix.specs.Matrix.{Design, IsDesign, column_at, margins_of, row_of}
use Rattle.mb_matrix.specs.Peel.{free_cells}
use Rattle.mb_matrix.specs.declared.digit.Digit.{Digit}
use Rattle.mb_matrix.proofs.Determined.{same_from_free}
use Rattle.mb_matrix.proofs.Digits.{number_same, some_quotient}
use Rattle.mb_matrix.proofs.FillLaws.{length-margins}
use Rattle.mb_matrix.proofs.CellLists.{get_or-in}
use Rattle.mb_matrix.proofs.FreeCells.{free-below}
use Rattle.mb_matrix.proofs.MarginLaws.{at-margins}
use Rattle.mb_matrix.proofs.RowsAndColumns.{row_entry}
use Rattle.mb_tables.proofs.ListLaws.{In-map}
use Rattle.mb_tables.specs.Margin.{margin}
use Rattle.mb_tables.specs.Vectors.{at}

-- one cell adds no more than the margin
margin-cell : (row u : List ℕ) (cell : ℕ) → at row cell * at u cell ≤ margin row u
unfolding margin
margin-cell [] u cell = omega arith
margin-cell (a ∷ row) [] cell = omega (arith, mul_comm (at (a ∷ row) cell) 0)
margin-cell (a ∷ row) (x ∷ u) zero = omega arith
margin-cell (a ∷ row) (x ∷ u) (suc cell) =
    let e = margin-cell row u cell in omega arith

-- what multiplies a column into the margins is at most each quotient
le-quotients : (column margins : List ℕ) (x : ℕ) →
    ((i : ℕ) → at column i * x ≤ at margins i) →
    AllByRecursion (λ q. x ≤ q) (quotients column margins)
unfolding quotients
le-quotients [] margins x h = tt
le-quotients (zero ∷ column) [] x h = tt
le-quotients (suc a ∷ column) [] x h = tt
le-quotients (zero ∷ column) (m ∷ margins) x h = le-quotients column margins x (λ i. h (suc i))
le-quotients (suc a ∷ column) (m ∷ margins) x h =
    let first = h 0 in
    let turned = mul_comm (suc a) x in
    (le-div x m (suc a) (omega arith) (omega arith), le-quotients column margins x (λ i. h (suc i)))

-- what is at most each of some numbers is at most the least
le-fold : (x first : ℕ) (qs : List ℕ) → x ≤ first → AllByRecursion (λ q. x ≤ q) qs →
    x ≤ fold min first qs
le-fold x first [] h b = h
le-fold x first (q ∷ qs) h b = let e = b.0 in le-fold x (min first q) qs (omega arith) b.1

le-least : (x : ℕ) (qs : List ℕ) → 0 < length qs → AllByRecursion (λ q. x ≤ q) qs → x ≤ least qs
le-least x [] h b = absurd (omega arith)
le-least x (q ∷ qs) h b = le-fold x q qs b.0 b.1

-- no table counts more at a cell than the bound by its margins
pub count-bounded : (matrix : Design) → IsDesign matrix → (u : List ℕ) (cell : ℕ) →
    cell < length matrix.columns → at u cell ≤ bound_of matrix (margins_of matrix u) cell
count-bounded matrix sound u cell h =
    let column = column_at matrix cell in
    let margins = margins_of matrix u in
    let is = All-from_recursion (IsColumn matrix.rows) matrix.columns sound.each cell [] h in
    let high = is.high in
    let long = length-margins matrix.rows matrix.columns u sound.each in
    le-least (at u cell) (quotients column margins)
    (some_quotient column margins is.not_zero (omega arith))
    (le-quotients column margins (at u cell)
    (λ i.
    let e = margin-cell (row_of matrix i) u cell in
    let f = row_entry matrix i cell h in
    let g = ap (λ n. n * at u cell) f in
    let m = at-margins matrix.rows matrix.columns u i in
    omega arith))

-- a digit is that of a free cell
digit-is : (matrix : Design) (margins : List ℕ) (k : ℕ) (d : Digit) →
    k < length (digits_of matrix margins) →
    get_or (digits_of matrix margins) k d
    ≡ digit_of matrix margins (get_or (free_cells matrix) k 0)
digit-is matrix margins k d h =
    let long = length-map (free_cells matrix) (digit_of matrix margins) in
    get_or-map (digit_of matrix margins) (free_cells matrix) k 0 d (omega arith)

-- and its cell one of the matrix
free-cell-below : (matrix : Design) (margins : List ℕ) (k : ℕ) →
    k < length (digits_of matrix margins) →
    get_or (free_cells matrix) k 0 < length matrix.columns
free-cell-below matrix margins k h =
    let long = length-map (free_cells matrix) (digit_of matrix margins) in
    free-below matrix (get_or (free_cells matrix) k 0)
    (get_or-in (free_cells matrix) k 0 (omega arith))

-- the digits are of cells of the matrix
pub digit-cells : (matrix : Design) (margins : List ℕ) →
    All (λ d. d.cell < length matrix.columns) (digits_of matrix margins)
digit-cells matrix margins k d h =
    let cell = free-cell-below matrix margins k h in
    let is = ap (λ (b : Digit). b.cell) (digit-is matrix margins k d h) in
    omega arith

-- a table suits the digits of its margins
pub suits : (matrix : Design) → IsDesign matrix → (u : List ℕ) →
    length u ≡ length matrix.columns → Suits (digits_of matrix (margins_of matrix u)) u
suits matrix sound u e = record {
  cells = λ k d h.
      let cell = digit-cells matrix (margins_of matrix u) k d h in omega arith;
  bounded = λ k d h.
      let is = digit-is matrix (margins_of matrix u) k d h in
      subst (λ (b : Digit). at u b.cell ≤ b.bound) (sym is)
      (count-bounded matrix sound u (get_or (free_cells matrix) k 0)
      (free-cell-below matrix (margins_of matrix u) k h));
}

-- tables of one fiber with the same key are equal
pub same_key : (matrix : Design) → IsDesign matrix → (margins u v : List ℕ) →
    length u ≡ length matrix.columns → length v ≡ length matrix.columns →
    margins_of matrix u ≡ margins → margins_of matrix v ≡ margins →
    key_of (digits_of matrix margins) u ≡ key_of (digits_of matrix margins) v → u ≡ v
same_key matrix sound margins u v e f m n k =
    let s = subst (λ l. Suits (digits_of matrix l) u) m (suits matrix sound u e) in
    let t = subst (λ l. Suits (digits_of matrix l) v) n (suits matrix sound v f) in
    same_from_free matrix u v e f (m ∙ sym n)
    (λ cell i.
    number_same (digits_of matrix margins) u v s t (omega arith) (digit_of matrix margins cell)
    (In-map (digit_of matrix margins) cell (free_cells matrix) i))
