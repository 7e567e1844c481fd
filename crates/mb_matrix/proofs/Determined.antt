-- Triangular determination: margins and free cells determine a table.
use Rattle.std.proofs.Common.{List, None, Option, Some, [], ap, arith, eq-eqb, inl, inr, length, nat_eq, not, refl, subst, suc, sym, true, zero, ℕ, ◌*◌, ◌+◌, ◌/◌, ◌<◌, ◌∙◌, ◌∷◌, ◌≡◌, ◌≢◌, ◌≤◌, ◌⊎◌}
use Rattle.std.proofs.lemmas.Bool.{cases_Bool, cases_eq, cases_lt}
use Rattle.std.proofs.lemmas.Bool.Decides.{nat_tests}
use Rattle.std.proofs.lemmas.List.{get_or_past, length-map}
use Rattle.std.proofs.lemmas.List.FromFn.{length-range_with_len}
use Rattle.std.proofs.Math.Nat.{mul-div_cancel_left}
use Rattle.std.specs.List.{range_with_len}
use Rattle.std.specs.Option.{option_or}
use Rattle.std.specs.Prelude.{unwrap_or}
use Rattle.mb_matrix.proofs.CellLists.{In-filter_yes, cases_In, length-filter_less, rises-filter, rises-range, stays}
use Rattle.mb_matrix.proofs.MarginLaws.{same_margins-at}
use Rattle.mb_matrix.specs.Matrix.{Design, margins_of, row_of}
use Rattle.mb_matrix.specs.Peel.{Rises, cell_of, counted_by, counts_cell, decides, first_decided, free_cells, free_of, next_step, peel_from, without}
use Rattle.mb_matrix.specs.declared.peel.Peeled.{Peeled}
use Rattle.mb_matrix.specs.declared.peel.Peeled.TheVariants.{Decided, Free}
use Rattle.mb_tables.proofs.ListLaws.{In-filter, In-filter_only, In-range, range-only}
use Rattle.mb_tables.proofs.VectorLaws.{same_places}
use Rattle.mb_tables.specs.Lists.{In}
use Rattle.mb_tables.specs.Margin.{margin}
use Rattle.mb_tables.specs.Vectors.{at}

-- equal products by a number above 0 are of equal numbers
pub cancel : (n x y : ℕ) → 0 < n → n * x ≡ n * y → x ≡ y
cancel n x y h e =
    sym (mul-div_cancel_left x h) ∙ ap (λ t. t / n) e ∙ mul-div_cancel_left y h

-- products by a number that is 0, or of equal numbers
product_same : (a x y : ℕ) → (a ≡ 0) ⊎ (x ≡ y) → a * x ≡ a * y
product_same a x y (inl n) = rw n (omega arith)
product_same a x y (inr s) = ap (λ t. a * t) s

-- margins of tables that agree wherever the row counts are equal
margin_same : (row u v : List ℕ) → length u ≡ length row → length v ≡ length row →
    ((k : ℕ) → (at row k ≡ 0) ⊎ (at u k ≡ at v k)) → margin row u ≡ margin row v
unfolding margin
margin_same [] u v e f h = refl
margin_same (a ∷ row) [] v e f h = absurd (omega arith)
margin_same (a ∷ row) (x ∷ u) [] e f h = absurd (omega arith)
margin_same (a ∷ row) (x ∷ u) (y ∷ v) e f h =
    let head = product_same a x y (h 0) in
    let tail = margin_same row u v (omega arith) (omega arith) (λ k. h (suc k)) in
    omega arith

-- margins of tables that agree wherever the row counts but at one cell
pub margin_but_one : (row u v : List ℕ) (cell : ℕ) →
    length u ≡ length row → length v ≡ length row →
    ((k : ℕ) → k ≢ cell → (at row k ≡ 0) ⊎ (at u k ≡ at v k)) →
    margin row u + at row cell * at v cell ≡ margin row v + at row cell * at u cell
unfolding margin
margin_but_one [] u v cell e f h = omega arith
margin_but_one (a ∷ row) [] v cell e f h = absurd (omega arith)
margin_but_one (a ∷ row) (x ∷ u) [] cell e f h = absurd (omega arith)
margin_but_one (a ∷ row) (x ∷ u) (y ∷ v) zero e f h =
    let tail = margin_same row u v (omega arith) (omega arith)
    (λ k. h (suc k) (λ g. absurd (omega arith))) in
    omega arith
margin_but_one (a ∷ row) (x ∷ u) (y ∷ v) (suc cell) e f h =
    let head = product_same a x y (h 0 (λ g. absurd (omega arith))) in
    let tail = margin_but_one row u v cell (omega arith) (omega arith)
    (λ k g. h (suc k) (λ s. g (omega arith))) in
    omega arith

-- a step that a row makes: the row counts its cell alone of the cells left
pub record IsDecision (matrix : Design) (left : List ℕ) (step : Peeled) : Type 0 where
  pub cell : ℕ
  pub row : ℕ
  pub is : step ≡ Decided cell row
  pub within : row < matrix.rows
  pub alone : counted_by matrix row left ≡ cell ∷ []

-- what is decided first is a decision
pub first_decision : (matrix : Design) (left rows : List ℕ) (step : Peeled) →
    ((row : ℕ) → In row rows → row < matrix.rows) →
    first_decided matrix left rows ≡ Some step → IsDecision matrix left step
unfolding first_decided In
first_decision matrix left [] step h e = absurd (cc)
first_decision matrix left (row ∷ rows) step h e =
    by (counted_by matrix row left) refl e
    (λ f. first_decision matrix left rows step (λ r i. h r (inr i)) f)
  where
    by : (cells : List ℕ) → counted_by matrix row left ≡ cells →
        option_or (decides row cells) (first_decided matrix left rows) ≡ Some step →
        (first_decided matrix left rows ≡ Some step → IsDecision matrix left step) →
        IsDecision matrix left step
    by [] c f later = later f
    by (cell ∷ []) c f later =
        record { cell = cell; row = row; is = cc; within = h row (inl refl); alone = c }
    by (cell ∷ next ∷ cells) c f later = later f

-- the next step is a decision, or the lowest cell becomes free
pub next_step-cases : (matrix : Design) (lowest : ℕ) (others : List ℕ) →
    IsDecision matrix (lowest ∷ others) (next_step matrix lowest others)
    ⊎ (next_step matrix lowest others ≡ Free lowest)
next_step-cases matrix lowest others =
    by (first_decided matrix (lowest ∷ others) (range_with_len 0 matrix.rows)) refl
  where
    by : (found : Option Peeled) →
        first_decided matrix (lowest ∷ others) (range_with_len 0 matrix.rows) ≡ found →
        IsDecision matrix (lowest ∷ others) (unwrap_or found (Free lowest))
        ⊎ (unwrap_or found (Free lowest) ≡ Free lowest)
    by None e = inr refl
    by (Some step) e =
        inl (first_decision matrix (lowest ∷ others) (range_with_len 0 matrix.rows) step
        (λ row i. let l = range-only 0 matrix.rows row i in let r = l.1 in omega arith) e)

-- the cell of a decision is one of the cells left
pub decision-in : (matrix : Design) (left : List ℕ) (step : Peeled) →
    IsDecision matrix left step → In (cell_of step) left
unfolding In
decision-in matrix left step d =
    let i : In d.cell (counted_by matrix d.row left) =
    subst (λ l. In d.cell l) (sym d.alone) (inl refl) in
    subst (λ s. In (cell_of s) left) (sym d.is)
    (In-filter_only (λ cell. counts_cell matrix d.row cell) d.cell left i)

-- and so is the cell of the next step
pub next_step-in : (matrix : Design) (lowest : ℕ) (others : List ℕ) →
    In (cell_of (next_step matrix lowest others)) (lowest ∷ others)
unfolding In
next_step-in matrix lowest others =
    elim (next_step-cases matrix lowest others) [
      | inl d ↦ decision-in matrix (lowest ∷ others) (next_step matrix lowest others) d
      | inr e ↦ inl (ap (λ s. cell_of s) e)
    ]

-- a row's only cell left is the one that it decides
pub only_cell : (matrix : Design) (left : List ℕ) (row cell k : ℕ) →
    counted_by matrix row left ≡ cell ∷ [] → In k left → counts_cell matrix row k ≡ true →
    k ≡ cell
unfolding In
only_cell matrix left row cell k alone i counts =
    let j : In k (cell ∷ []) =
    subst (λ l. In k l) alone (In-filter (λ c. counts_cell matrix row c) k left i counts) in
    elim j [ inl e ↦ e | inr n ↦ absurd n ]

-- the row counts the cell that it decides
pub decides_counted : (matrix : Design) (left : List ℕ) (row cell : ℕ) →
    counted_by matrix row left ≡ cell ∷ [] → 0 < at (row_of matrix row) cell
unfolding In
decides_counted matrix left row cell alone =
    let i : In cell (counted_by matrix row left) = subst (λ l. In cell l) (sym alone) (inl refl) in
    let e = In-filter_yes (λ c. counts_cell matrix row c) cell left i in
    grind (arith, nat_tests)

-- tables that agree at the cells that aren't left agree, but at the decided cell, wherever the
-- deciding row counts
pub others_agree : (matrix : Design) (left u v : List ℕ) (row cell : ℕ) →
    counted_by matrix row left ≡ cell ∷ [] →
    ((c : ℕ) → (In c left → ⊥) → at u c ≡ at v c) →
    (k : ℕ) → k ≢ cell → (at (row_of matrix row) k ≡ 0) ⊎ (at u k ≡ at v k)
others_agree matrix left u v row cell alone same k n =
    elim (cases_Bool (counts_cell matrix row k)) [
      | inl yes' ↦ inr (same k (λ i. n (only_cell matrix left row cell k alone i yes')))
      | inr no' ↦ inl (grind (arith, nat_tests))
    ]

-- a margin and the other cells that a row counts determine the cell that it decides
pub decided_same : (matrix : Design) (left u v : List ℕ) (row cell : ℕ) →
    counted_by matrix row left ≡ cell ∷ [] →
    length u ≡ length matrix.columns → length v ≡ length matrix.columns →
    margin (row_of matrix row) u ≡ margin (row_of matrix row) v →
    ((c : ℕ) → (In c left → ⊥) → at u c ≡ at v c) → at u cell ≡ at v cell
decided_same matrix left u v row cell alone e f m same =
    let long = length-map matrix.columns (λ column. at column row) in
    let both = margin_but_one (row_of matrix row) u v cell (e ∙ sym long) (f ∙ sym long)
    (others_agree matrix left u v row cell alone same) in
    let some = decides_counted matrix left row cell alone in
    let g : at (row_of matrix row) cell * at v cell ≡ at (row_of matrix row) cell * at u cell =
    omega arith in
    sym (cancel (at (row_of matrix row) cell) (at v cell) (at u cell) some g)

-- a free cell of the further steps is one of all
free_later : (step : Peeled) (steps : List Peeled) (k : ℕ) →
    In k (free_of steps) → In k (free_of (step ∷ steps))
unfolding In free_of
free_later (Decided cell row) steps k i = i
free_later (Free cell) steps k i = inr i

-- the lowest cell left is no higher than any
lowest_le : (lowest : ℕ) (others : List ℕ) (c : ℕ) → Rises (lowest ∷ others) →
    In c (lowest ∷ others) → lowest ≤ c
unfolding Rises In
lowest_le lowest others c r (inl e) = omega arith
lowest_le lowest others c r (inr i) = let l = r.0 c i in omega arith

-- the cell that becomes free is one of them
free_here : (step : Peeled) (steps : List Peeled) (cell : ℕ) →
    step ≡ Free cell → In (cell_of step) (free_of (step ∷ steps))
unfolding In free_of
free_here (Decided cell row) steps c e = absurd (cc)
free_here (Free cell) steps c e = inl refl

-- the margins and the free cells up to a cell determine its count: a cell becomes free only as the
-- lowest one left
pub determined : (matrix : Design) (room : ℕ) (left u v : List ℕ) (c : ℕ) →
    length left ≤ room → Rises left →
    length u ≡ length matrix.columns → length v ≡ length matrix.columns →
    ((i : ℕ) → margin (row_of matrix i) u ≡ margin (row_of matrix i) v) →
    ((k : ℕ) → In k (free_of (peel_from matrix room left)) → k ≤ c → at u k ≡ at v k) →
    ((k : ℕ) → (In k left → ⊥) → at u k ≡ at v k) →
    at u c ≡ at v c
unfolding peel_from In
determined matrix room [] u v c l r e f rows free same = same c (λ i. i)
determined matrix zero (lowest ∷ others) u v c l r e f rows free same = absurd (omega arith)
determined matrix (suc room) (lowest ∷ others) u v c l r e f rows free same =
    let step : Peeled = next_step matrix lowest others in
    let rest : List Peeled = peel_from matrix room (without (cell_of step) (lowest ∷ others)) in
    elim (cases_In c (lowest ∷ others)) [
      | inl i ↦
          let here : at u (cell_of step) ≡ at v (cell_of step) =
          elim (next_step-cases matrix lowest others) [
            | inl d ↦
                subst (λ (s : Peeled). at u (cell_of s) ≡ at v (cell_of s)) (sym d.is)
                (decided_same matrix (lowest ∷ others) u v d.row d.cell d.alone e f
                (rows d.row) same)
            | inr g ↦ free (cell_of step) (free_here step rest lowest g)
                (subst (λ (s : Peeled). cell_of s ≤ c) (sym g) (lowest_le lowest others c r i))
          ] in
          let less : length (without (cell_of step) (lowest ∷ others)) < length (lowest ∷ others) =
          length-filter_less (λ k. not (nat_eq k (cell_of step))) (cell_of step) (lowest ∷ others)
          (next_step-in matrix lowest others)
          (ap not (eq-eqb (cell_of step) (cell_of step) refl)) in
          determined matrix room (without (cell_of step) (lowest ∷ others)) u v c (omega arith)
          (rises-filter (λ k. not (nat_eq k (cell_of step))) (lowest ∷ others) r) e f rows
          (λ k j. free k (free_later step rest k j))
          (λ k n. elim (cases_eq k (cell_of step)) [
            | inl s ↦ ap (λ t. at u t) s ∙ here ∙ sym (ap (λ t. at v t) s)
            | inr ne ↦ same k (λ j. n (stays (cell_of step) k (lowest ∷ others) ne j))
          ])
      | inr n ↦ same c n
    ]

-- tables of the same margins with the same free cells up to a cell have the same count there
pub same_up_to : (matrix : Design) (u v : List ℕ) (c : ℕ) →
    length u ≡ length matrix.columns → length v ≡ length matrix.columns →
    margins_of matrix u ≡ margins_of matrix v →
    ((k : ℕ) → In k (free_cells matrix) → k ≤ c → at u k ≡ at v k) → at u c ≡ at v c
same_up_to matrix u v c e f same free =
    let cells = length matrix.columns in
    determined matrix cells (range_with_len 0 cells) u v c
    (omega (arith, length-range_with_len 0 cells)) (rises-range 0 cells) e f
    (λ i. same_margins-at matrix u v i same) free
    (λ k n. elim (cases_lt k cells) [
      | inl h ↦ absurd (n (In-range 0 cells k (omega arith) (omega arith)))
      | inr h ↦ get_or_past u k 0 (omega arith) ∙ sym (get_or_past v k 0 (omega arith))
    ])

-- so with the same free cells they are equal
pub same_from_free : (matrix : Design) (u v : List ℕ) →
    length u ≡ length matrix.columns → length v ≡ length matrix.columns →
    margins_of matrix u ≡ margins_of matrix v →
    ((cell : ℕ) → In cell (free_cells matrix) → at u cell ≡ at v cell) → u ≡ v
same_from_free matrix u v e f same free =
    same_places u v (e ∙ sym f)
    (λ c l. same_up_to matrix u v c e f same (λ k i m. free k i))
