-- The free cells among the steps of a peel, and the digits that they make.
use Rattle.std.proofs.Common.{List, [], ap, append_assoc, arith, drop, drop-cons, get_or, inl, inr, length, map, nat_eq, not, refl, subst, suc, sym, zero, ℕ, ◌*◌, ◌++◌, ◌+◌, ◌<◌, ◌∙◌, ◌∷◌, ◌≡◌, ◌≤◌}
use Rattle.std.specs.List.{range_with_len}
use Rattle.mb_matrix.specs.Key.{digit_of, key_count}
use Rattle.mb_matrix.specs.Matrix.{Design}
use Rattle.mb_matrix.specs.Peel.{cell_of, free_of, next_step, peel_from, peel_of, without}
use Rattle.mb_matrix.specs.declared.digit.Digit.{Digit}
use Rattle.mb_matrix.specs.declared.peel.Peeled.{Peeled}
use Rattle.mb_matrix.specs.declared.peel.Peeled.TheVariants.{Decided, Free}
use Rattle.mb_matrix.proofs.CellLists.{get_or-in}
use Rattle.mb_matrix.proofs.Determined.{next_step-in}
use Rattle.mb_matrix.proofs.Digits.{key_count-front}
use Rattle.mb_tables.proofs.ListLaws.{In-filter_only, range-only}
use Rattle.mb_tables.specs.Lists.{In}

-- the free cells from a step on that makes a cell free
pub free_of-drop_free : (steps : List Peeled) (k cell : ℕ) (other : Peeled) → k < length steps →
    get_or steps k other ≡ Free cell →
    free_of (drop k steps) ≡ cell ∷ free_of (drop (k + 1) steps)
unfolding free_of
free_of-drop_free steps k cell other h e =
    let n : suc k ≡ k + 1 = omega arith in
    ap free_of (drop-cons steps k other h)
    ∙ ap (λ s. free_of (s ∷ drop (suc k) steps)) e
    ∙ ap (λ i. cell ∷ free_of (drop i steps)) n

-- and from one on that decides a cell
pub free_of-drop_other : (steps : List Peeled) (k : ℕ) (other : Peeled) → k < length steps →
    ((cell : ℕ) → get_or steps k other ≡ Free cell → ⊥) →
    free_of (drop k steps) ≡ free_of (drop (k + 1) steps)
unfolding free_of
free_of-drop_other steps k other h not_free =
    let n : suc k ≡ k + 1 = omega arith in
    ap free_of (drop-cons steps k other h) ∙ by (get_or steps k other) not_free
    ∙ ap (λ i. free_of (drop i steps)) n
  where
    by : (s : Peeled) → ((cell : ℕ) → s ≡ Free cell → ⊥) →
        free_of (s ∷ drop (suc k) steps) ≡ free_of (drop (suc k) steps)
    by (Decided cell row) f = refl
    by (Free cell) f = absurd (f cell refl)

-- behind the last step there are none
pub free_of-drop_all : (steps : List Peeled) (k : ℕ) → length steps ≤ k →
    free_of (drop k steps) ≡ []
unfolding free_of
free_of-drop_all [] zero h = refl
free_of-drop_all [] (suc k) h = refl
free_of-drop_all (s ∷ steps) zero h = absurd (omega arith)
free_of-drop_all (s ∷ steps) (suc k) h = free_of-drop_all steps k (omega arith)

-- the cells of a peel are among those left
pub peel-in : (matrix : Design) (room : ℕ) (left : List ℕ) (step : Peeled) →
    In step (peel_from matrix room left) → In (cell_of step) left
unfolding In peel_from
peel-in matrix zero left step i = absurd i
peel-in matrix (suc room) [] step i = absurd i
peel-in matrix (suc room) (lowest ∷ others) step i =
    let next = next_step matrix lowest others in
    elim i [
      | inl e ↦
          subst (λ (s : Peeled). In (cell_of s) (lowest ∷ others)) (sym e)
          (next_step-in matrix lowest others)
      | inr j ↦
          In-filter_only (λ k. not (nat_eq k (cell_of next))) (cell_of step) (lowest ∷ others)
          (peel-in matrix room (without (cell_of next) (lowest ∷ others)) step j)
    ]

-- the cells of the peel of a matrix are cells of it
pub peel-cell : (matrix : Design) (steps : List Peeled) (k : ℕ) (other : Peeled) →
    steps ≡ peel_of matrix → k < length steps →
    cell_of (get_or steps k other) < length matrix.columns
peel-cell matrix steps k other e h =
    let cells = length matrix.columns in
    let i : In (get_or steps k other) (peel_of matrix) =
    subst (λ l. In (get_or steps k other) l) e (get_or-in steps k other h) in
    let r = range-only 0 cells (cell_of (get_or steps k other))
    (peel-in matrix cells (range_with_len 0 cells) (get_or steps k other) i) in
    let l = r.1 in omega arith

-- a free cell of steps is the cell of one of them
pub free-in : (steps : List Peeled) (cell : ℕ) → In cell (free_of steps) →
    (step : Peeled) × In step steps × (cell_of step ≡ cell)
unfolding In free_of
free-in [] cell i = absurd i
free-in (Decided c row ∷ steps) cell i = let r = free-in steps cell i in (r.0, inr r.1, r.2)
free-in (Free c ∷ steps) cell (inl e) = (Free c, inl refl, sym e)
free-in (Free c ∷ steps) cell (inr i) = let r = free-in steps cell i in (r.0, inr r.1, r.2)

-- free cells are cells of the matrix
pub free-below : (matrix : Design) (cell : ℕ) → In cell (free_of (peel_of matrix)) →
    cell < length matrix.columns
free-below matrix cell i =
    let cells = length matrix.columns in
    let s = free-in (peel_of matrix) cell i in
    let r = range-only 0 cells (cell_of s.0)
    (peel-in matrix cells (range_with_len 0 cells) s.0 s.1) in
    let l = r.1 in let e = s.2 in omega arith

-- a digit moves from those to come to those so far
pub digits_go_on : (matrix : Design) (margins : List ℕ) (digits more : List Digit) (cell : ℕ)
    (cells rest : List ℕ) (d : Digit) (all : List Digit) → cells ≡ cell ∷ rest →
    d ≡ digit_of matrix margins cell → more ≡ digits ++ (d ∷ []) →
    digits ++ map (digit_of matrix margins) cells ≡ all →
    more ++ map (digit_of matrix margins) rest ≡ all
digits_go_on matrix margins digits more cell cells rest d all c e m sum =
    ap (λ l. l ++ map (digit_of matrix margins) rest) m
    ∙ append_assoc digits (d ∷ []) (map (digit_of matrix margins) rest)
    ∙ ap (λ b. digits ++ (b ∷ map (digit_of matrix margins) rest)) e
    ∙ sym (ap (λ l. digits ++ map (digit_of matrix margins) l) c) ∙ sum

-- where one digit more makes too many keys, all digits do
pub too_many : (matrix : Design) (margins : List ℕ) (digits : List Digit) (cell : ℕ)
    (cells rest : List ℕ) (all : List Digit) (most size bound : ℕ) → cells ≡ cell ∷ rest →
    digits ++ map (digit_of matrix margins) cells ≡ all → size ≡ key_count digits →
    bound ≡ (digit_of matrix margins cell).bound →
    (size * suc bound < most → ⊥) → key_count all < most → ⊥
too_many matrix margins digits cell cells rest all most size bound c sum s b full fits =
    let whole : digits ++ (digit_of matrix margins cell ∷ map (digit_of matrix margins) rest)
    ≡ all =
    sym (ap (λ l. digits ++ map (digit_of matrix margins) l) c) ∙ sum in
    let front = key_count-front digits (map (digit_of matrix margins) rest)
    (digit_of matrix margins cell) in
    let e = ap key_count whole in
    let f : size * suc bound ≡ key_count digits * suc (digit_of matrix margins cell).bound =
    ap (λ n. n * suc bound) s ∙ ap (λ n. key_count digits * suc n) b in
    full (omega arith)
