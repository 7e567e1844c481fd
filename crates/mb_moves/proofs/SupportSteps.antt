-- A margin of a move cell by cell, over the cells where it isn't 0.
use Rattle.std.proofs.Common.{List, Some, [], eqb, inl, inr, zero, false, negsuc, suc, true, ap, arith, cond, drop, get_or, length, pos, refl, slice_get, sym, ℕ, ℤ, neg_ℤ, ◌*◌, ◌*ℤ◌, ◌+ℤ◌, ◌+◌, ◌<◌, ◌≡◌, ◌≢◌, ◌≤◌, ◌∙◌, ◌∷◌, ◌⊎◌}
use Rattle.std.proofs.lemmas.Int.{ints}
use Rattle.std.proofs.lemmas.List.{at_drop_all, at_drop_more, drop_all, drop_more}
use Rattle.std.proofs.lemmas.Bool.{ne_eqb}
use Rattle.std.proofs.lemmas.Option.{get_or_from_slice_get}
use Rattle.std.proofs.lemmas.List.Elements.{All-from_recursion}
use Rattle.std.specs.Int.RustNames.{unsigned_abs}
use Rattle.std.specs.List.{All, AllByRecursion}
use Rattle.mb_tables.specs.Margin.{move_margin}
use mir.Syntax.{w32}
use mir.Val.{SFits, of_z}
use Rattle.mb_moves.specs.loops.Support.{cells_margin, support}

module _ (row move : List ℤ) (cells : List ℕ) where
  -- one more cell
  pub cells_margin-more : (i : ℕ) (sum p total : ℤ) → i < length cells →
      p ≡ (get_or row (get_or cells i 0) (pos 0) *ℤ get_or move (get_or cells i 0) (pos 0)) →
      (sum +ℤ cells_margin row move (drop i cells)) ≡ total →
      ((sum +ℤ p) +ℤ cells_margin row move (drop (i + 1) cells)) ≡ total
  unfolding cells_margin
  cells_margin-more i sum p total l e so_far =
      let next : cells_margin row move (drop i cells)
      ≡ (p +ℤ cells_margin row move (drop (i + 1) cells)) =
      at_drop_more (cells_margin row move) cells i 0 l
      ∙ ap (λ q. q +ℤ cells_margin row move (drop (i + 1) cells)) (sym e) in
      omega (arith, ints)

  -- all cells
  pub cells_margin-all : (i : ℕ) (sum total : ℤ) → length cells ≤ i →
      (sum +ℤ cells_margin row move (drop i cells)) ≡ total → sum ≡ total
  unfolding cells_margin
  cells_margin-all i sum total l so_far =
      let none : cells_margin row move (drop i cells) ≡ pos 0 =
      at_drop_all (cells_margin row move) cells i l in
      omega (arith, ints)

-- a cell where the move is 0 is passed over
pub support-zero : (cell : ℕ) (move : List ℤ) → cell < length move →
    get_or move cell (pos 0) ≡ pos 0 →
    support cell (drop cell move) ≡ support (cell + 1) (drop (cell + 1) move)
unfolding support
support-zero cell move l e =
    at_drop_more (support cell) move cell (pos 0) l
    ∙ ap (λ z. cond (eqb (unsigned_abs z) 0) (support (cell + 1) (drop (cell + 1) move))
    (cell ∷ support (cell + 1) (drop (cell + 1) move))) e

-- a number whose bits are 0
pub zero_bits : (z : ℤ) → SFits w32 z → of_z w32 z ≡ 0 → z ≡ pos 0
zero_bits (pos n) f e = ap pos e
zero_bits (negsuc n) f e = absurd (omega (arith, ints))

-- a number that isn't 0 has a size above 0
abs_above : (z : ℤ) → z ≢ pos 0 → unsigned_abs z ≢ 0
abs_above (pos n) h e = h (ap pos e)
abs_above (negsuc n) h e = omega arith

-- and any other is listed
pub support-cell : (cell : ℕ) (move : List ℤ) → cell < length move →
    get_or move cell (pos 0) ≢ pos 0 →
    support cell (drop cell move) ≡ cell ∷ support (cell + 1) (drop (cell + 1) move)
unfolding support
support-cell cell move l h =
    at_drop_more (support cell) move cell (pos 0) l
    ∙ ap (λ test. cond test (support (cell + 1) (drop (cell + 1) move))
    (cell ∷ support (cell + 1) (drop (cell + 1) move)))
    (ne_eqb (unsigned_abs (get_or move cell (pos 0))) 0
    (abs_above (get_or move cell (pos 0)) h))

-- after the last cell
pub support-all : (cell : ℕ) (move : List ℤ) → length move ≤ cell →
    support cell (drop cell move) ≡ []
unfolding support
support-all cell move l = at_drop_all (support cell) move cell l

-- the cells of a support lie below the end of its move
support_below : (n cell : ℕ) (move : List ℤ) → cell + length move ≤ n →
    AllByRecursion (λ k. k < n) (support cell move)
unfolding support
support_below n cell [] l = tt
support_below n cell (z ∷ move) l =
    let others = support_below n (cell + 1) move (omega arith) in
    elim (eqb (unsigned_abs z) 0)
    as (λ test. AllByRecursion (λ k. k < n)
    (cond test (support (cell + 1) move) (cell ∷ support (cell + 1) move))) [
      | true ↦ others
      | false ↦ (omega arith, others)
    ]

-- the support lies in the move
pub support_within : (move : List ℤ) → All (λ k. k < length move) (support 0 move)
support_within move =
    All-from_recursion (λ k. k < length move) (support 0 move)
    (support_below (length move) 0 move (omega arith))

-- a number is 0 or not
zero_or_not : (z : ℤ) → (z ≡ pos 0) ⊎ (z ≢ pos 0)
zero_or_not (pos zero) = inl refl
zero_or_not (pos (suc n)) = inr (λ e. omega (arith, ints))
zero_or_not (negsuc n) = inr (λ e. cc)

-- a product with 0
times_zero : (a b : ℤ) → b ≡ pos 0 → (a *ℤ b) ≡ pos 0
times_zero (pos n) b e = rw e (ap pos (omega arith))
times_zero (negsuc n) b e = let none : suc n * 0 ≡ 0 =
    omega arith in rw e (ap (λ k. neg_ℤ (pos k)) none)

-- the sum over the support is the whole margin, from a cell on
margin_from : (row move : List ℤ) (n cell : ℕ) → length row ≡ length move → cell + n ≡ length move →
    cells_margin row move (support cell (drop cell move))
    ≡ move_margin (drop cell row) (drop cell move)
unfolding cells_margin move_margin
margin_from row move zero cell same e =
    ap (cells_margin row move) (support-all cell move (omega arith))
    ∙ sym (ap (λ r. move_margin r (drop cell move)) (drop_all cell row (omega arith)))
margin_from row move (suc n) cell same e =
    let a = get_or row cell (pos 0) in
    let b = get_or move cell (pos 0) in
    let l : cell < length move = omega arith in
    let k : cell < length row = omega arith in
    let others = margin_from row move n (cell + 1) same (omega arith) in
    let whole : move_margin (drop cell row) (drop cell move)
    ≡ (a *ℤ b) +ℤ move_margin (drop (cell + 1) row) (drop (cell + 1) move) =
    ap (λ r. move_margin r (drop cell move)) (drop_more row cell (pos 0) k)
    ∙ ap (λ m. move_margin (a ∷ drop (cell + 1) row) m) (drop_more move cell (pos 0) l) in
    elim (zero_or_not b) [
      | inl h ↦
          let passed = ap (cells_margin row move) (support-zero cell move l h) in
          let none = times_zero a b h in
          omega (arith, ints)
      | inr h ↦
          let listed : cells_margin row move (support cell (drop cell move))
          ≡ (a *ℤ b) +ℤ cells_margin row move (support (cell + 1) (drop (cell + 1) move)) =
          ap (cells_margin row move) (support-cell cell move l h) in
          omega (arith, ints)
    ]

-- the sum over the support is the margin
pub cells_margin-support : (row move : List ℤ) → length row ≡ length move →
    cells_margin row move (support 0 move) ≡ move_margin row move
cells_margin-support row move same = margin_from row move (length move) 0 same (omega arith)

-- a list of cells that is the support
pub support_cells : (cells : List ℕ) (row move : List ℤ) → cells ≡ support 0 move →
    length row ≡ length move →
    All (λ cell. cell < length row) cells
support_cells cells row move e same = rw (e, same) (support_within move)

-- and the sum over it
support_margin : (cells : List ℕ) (row move : List ℤ) → cells ≡ support 0 move →
    length row ≡ length move →
    cells_margin row move cells ≡ move_margin row move
support_margin cells row move e same = rw e (cells_margin-support row move same)

-- a margin over the support is that of the row with this number
pub margin_of_row : (cells : List ℕ) (rows : List (List ℤ)) (i : ℕ) (row d move : List ℤ) →
    cells ≡ support 0 move → slice_get rows i ≡ Some row → length row ≡ length move →
    cells_margin row move cells ≡ move_margin (get_or rows i d) move
margin_of_row cells rows i row d move e there same =
    support_margin cells row move e same
    ∙ ap (λ r. move_margin r move) (sym (get_or_from_slice_get rows i row d there))
