-- The steps of a peel, one after another.
use Rattle.std.proofs.Common.{List, None, Option, Some, [], ap, append-nil, append_assoc, arith, drop, inl, inr, refl, slice_get, suc, sym, zero, ℕ, ◌++◌, ◌+◌, ◌-◌, ◌<◌, ◌∙◌, ◌∷◌, ◌≡◌, ◌≤◌, ◌⊎◌}
use Rattle.std.specs.List.{range_with_len}
use Rattle.std.specs.Option.{option_or}
use Rattle.std.specs.Prelude.{unwrap_or}
use Rattle.mb_matrix.specs.Matrix.{Design}
use Rattle.mb_matrix.specs.Peel.{cell_of, counted_by, decides, first_decided, next_step, peel_from, without}
use Rattle.mb_matrix.specs.declared.peel.Peeled.{Peeled}
use Rattle.mb_matrix.specs.declared.peel.Peeled.TheVariants.{Free}

-- the lowest deciding row from a row on is that row, if it decides, or one behind it
pub first_decided-row : (matrix : Design) (left : List ℕ) (rows row : ℕ) → row < rows →
    first_decided matrix left (range_with_len row (rows - row))
    ≡ option_or (decides row (counted_by matrix row left))
    (first_decided matrix left (range_with_len (row + 1) (rows - (row + 1))))
unfolding first_decided
first_decided-row matrix left rows row h =
    let e : rows - row ≡ suc (rows - (row + 1)) = omega arith in
    ap (λ n. first_decided matrix left (range_with_len row n)) e

-- behind the last row none decides
pub first_decided-end : (matrix : Design) (left : List ℕ) (rows row : ℕ) → rows ≤ row →
    first_decided matrix left (range_with_len row (rows - row)) ≡ None
unfolding first_decided
first_decided-end matrix left rows row h =
    let e : rows - row ≡ 0 = omega arith in
    ap (λ n. first_decided matrix left (range_with_len row n)) e

-- what is first decided makes the next step
pub next_step-is : (matrix : Design) (left : List ℕ) (lowest : ℕ) (found : Option Peeled) →
    left ≡ lowest ∷ drop 1 left →
    first_decided matrix left (range_with_len 0 matrix.rows) ≡ found →
    unwrap_or found (Free lowest) ≡ next_step matrix lowest (drop 1 left)
next_step-is matrix left lowest found e f =
    sym (ap (λ d. unwrap_or d (Free lowest)) f)
    ∙ ap (λ l. unwrap_or (first_decided matrix l (range_with_len 0 matrix.rows)) (Free lowest)) e

-- no cells left, no steps
pub peel_from-none : (matrix : Design) (room : ℕ) → peel_from matrix room [] ≡ []
unfolding peel_from
peel_from-none matrix zero = refl
peel_from-none matrix (suc room) = refl

-- one step more of a peel
pub peel_from-step : (matrix : Design) (steps : List Peeled) (left : List ℕ)
    (cells k lowest : ℕ) (step : Peeled) → k < cells → left ≡ lowest ∷ drop 1 left →
    step ≡ next_step matrix lowest (drop 1 left) →
    steps ++ peel_from matrix (cells - k) left
    ≡ (steps ++ (step ∷ [])) ++ peel_from matrix (cells - (k + 1)) (without (cell_of step) left)
unfolding peel_from
peel_from-step matrix steps left cells k lowest step h e f =
    let n : cells - k ≡ suc (cells - (k + 1)) = omega arith in
    ap (λ r. steps ++ peel_from matrix r left) n
    ∙ ap (λ l. steps ++ peel_from matrix (suc (cells - (k + 1))) l) e
    ∙ ap
    (λ s. steps
    ++ (s ∷ peel_from matrix (cells - (k + 1)) (without (cell_of s) (lowest ∷ drop 1 left))))
    (sym f)
    ∙ ap (λ l. steps ++ (step ∷ peel_from matrix (cells - (k + 1)) (without (cell_of step) l)))
    (sym e)
    ∙ sym (append_assoc steps (step ∷ [])
    (peel_from matrix (cells - (k + 1)) (without (cell_of step) left)))

-- with no room or no cells left the steps so far are all
pub peel_from-done : (matrix : Design) (steps : List Peeled) (room : ℕ) (left : List ℕ) →
    (room ≡ 0) ⊎ (left ≡ []) → steps ++ peel_from matrix room left ≡ steps
unfolding peel_from
peel_from-done matrix steps room left (inl e) =
    ap (λ n. steps ++ peel_from matrix n left) e ∙ append-nil steps
peel_from-done matrix steps room left (inr e) =
    ap (λ l. steps ++ peel_from matrix room l) e
    ∙ ap (λ l. steps ++ l) (peel_from-none matrix room) ∙ append-nil steps

-- a list with a first element is that and the others
pub first-is : (left : List ℕ) (x : ℕ) → Some x ≡ slice_get left 0 → left ≡ x ∷ drop 1 left
first-is [] x e = cc
first-is (y ∷ left) x e = let f : x ≡ y = cc in ap (λ z. z ∷ left) (sym f)

-- a list without a first element is empty
pub no_first : (left : List ℕ) → None ≡ slice_get left 0 → left ≡ []
no_first [] e = refl
no_first (y ∷ left) e = cc

-- a round of the peel keeps the steps so far with those that are to come
pub peel_goes_on : (matrix : Design) (steps more : List Peeled) (left slice less : List ℕ)
    (cells k lowest cell : ℕ) (step : Peeled) → k < cells → Some lowest ≡ slice_get left 0 →
    slice ≡ left → step ≡ next_step matrix lowest (drop 1 slice) → cell ≡ cell_of step →
    more ≡ steps ++ (step ∷ []) → less ≡ without cell left →
    more ++ peel_from matrix (cells - (k + 1)) less ≡ steps ++ peel_from matrix (cells - k) left
peel_goes_on matrix steps more left slice less cells k lowest cell step h first same next of
    grown out =
    let e = peel_from-step matrix steps left cells k lowest step h (first-is left lowest first)
    (next ∙ ap (λ l. next_step matrix lowest (drop 1 l)) same) in
    ap (λ l. l ++ peel_from matrix (cells - (k + 1)) less) grown
    ∙ ap (λ l. (steps ++ (step ∷ [])) ++ peel_from matrix (cells - (k + 1)) l)
    (out ∙ ap (λ n. without n left) of)
    ∙ sym e
