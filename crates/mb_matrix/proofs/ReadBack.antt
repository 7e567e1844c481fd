-- Tables read back from their keys.
use Rattle.std.proofs.Common.{List, [], ap, arith, drop, drop-cons, get_or, get_or-set_same, inl, inr, length, length-set, set, subst, suc, sym, zero, ℕ, ◌%◌, ◌*◌, ◌+◌, ◌-◌, ◌/◌, ◌<◌, ◌^◌, ◌∙◌, ◌∷◌, ◌≡◌, ◌≢◌, ◌≤◌, ◌⊎◌}
use Rattle.std.proofs.Math.Nat.{le-mul_of_pos_right, mul-div_cancel_left, mul_comm}
use Rattle.std.proofs.lemmas.Bool.{cases_eq, cases_lt}
use Rattle.std.proofs.lemmas.List.{get_or-set_other, get_or_past}
use Rattle.std.proofs.lemmas.Nat.{div-mul-add, mod-mul-add}
use Rattle.mb_matrix.specs.Key.{digit_of, digits_of, key_count}
use Rattle.mb_matrix.specs.Matrix.{Design, IsDesign, row_of}
use Rattle.mb_matrix.specs.Peel.{IsTriangular, peeled_cells, free_cells, free_of, peel_of}
use Rattle.mb_matrix.specs.declared.peel.Peeled.{Peeled}
use Rattle.mb_matrix.specs.declared.peel.Peeled.TheVariants.{Decided, Free}
use Rattle.mb_matrix.specs.declared.digit.Digit.{Digit}
use Rattle.mb_matrix.proofs.CellLists.{cases_In}
use Rattle.mb_matrix.proofs.Digits.{some_key}
use Rattle.std.specs.List.{range_with_len}
use Rattle.std.proofs.lemmas.List.FromFn.{length-range_with_len}
use Rattle.mb_matrix.proofs.Triangular.{cells-all, free-cell}
use Rattle.mb_tables.proofs.ListLaws.{In-map, In-range}
use Rattle.mb_tables.proofs.VectorLaws.{same_places}
use Rattle.mb_tables.specs.Counts.{AreCounts}
use Rattle.mb_matrix.proofs.Determined.{margin_but_one}
use Rattle.mb_tables.specs.Margin.{margin}
use Rattle.mb_tables.specs.Lists.{In}
use Rattle.mb_tables.specs.Vectors.{at}

-- a count has 32 bits
pub count_fits : (u : List ℕ) → AreCounts u → (cell : ℕ) → at u cell < 2 ^ 32
count_fits u h cell =
    elim (cases_lt cell (length u)) [
      | inl l ↦ h cell 0 l
      | inr m ↦ omega (arith, get_or_past u cell 0 m)
    ]

-- a number of 32 bits is what a cast leaves of it
mod-fits : (x : ℕ) → x < 2 ^ 32 → x % 4294967296 ≡ x
mod-fits x l = omega arith

-- the last digit of a number
pub digit_read : (rest x bound more : ℕ) → rest ≡ x + suc bound * more → x ≤ bound → x < 2 ^ 32 →
    rest % (bound + 1) % 4294967296 ≡ x
digit_read rest x bound more e h l =
    let turned = mul_comm (suc bound) more in
    let f : rest ≡ more * (bound + 1) + x =
    let g : more * suc bound ≡ more * (bound + 1) =
    ap (λ n. more * n) (omega arith) in omega arith in
    let m = ap (λ n. n % (bound + 1)) f ∙ mod-mul-add more (bound + 1) x (omega arith) in
    ap (λ n. n % 4294967296) m ∙ mod-fits x l

-- the digits above it
pub digits_above : (rest x bound more : ℕ) → rest ≡ x + suc bound * more → x ≤ bound →
    rest / (bound + 1) ≡ more
digits_above rest x bound more e h =
    let turned = mul_comm (suc bound) more in
    let f : rest ≡ more * (bound + 1) + x =
    let g : more * suc bound ≡ more * (bound + 1) =
    ap (λ n. more * n) (omega arith) in omega arith in
    ap (λ n. n / (bound + 1)) f ∙ div-mul-add more (bound + 1) x (omega arith)

-- a radix is no more than the keys
pub radix-most : (digits : List Digit) (k : ℕ) (d : Digit) → k < length digits →
    (get_or digits k d).bound + 1 ≤ key_count digits
unfolding key_count
radix-most [] k d h = absurd (omega arith)
radix-most (b ∷ digits) zero d h =
    let e = le-mul_of_pos_right (suc b.bound) (some_key digits) in omega arith
radix-most (b ∷ digits) (suc k) d h =
    let later = radix-most digits k d (omega arith) in
    let e = le-mul_of_pos_right (key_count digits) (some b.bound) in
    let f = mul_comm (suc b.bound) (key_count digits) in
    omega arith
  where
    some : (n : ℕ) → 0 < suc n
    some n = omega arith

-- a written count is a table's where it was, or where the table's count is written
pub written : (counts u : List ℕ) (cell x c : ℕ) → cell < length counts → x ≡ at u cell →
    (c ≢ cell → at counts c ≡ at u c) → at (set counts cell x) c ≡ at u c
written counts u cell x c h e same =
    elim (cases_eq c cell) [
      | inl s ↦ ap (λ k. at (set counts cell x) k) s ∙ get_or-set_same counts cell x 0 h ∙ e
          ∙ sym (ap (λ k. at u k) s)
      | inr n ↦ get_or-set_other counts cell c x 0 n ∙ same n
    ]

-- what is left of a margin without the other cells, divided by the entry, is the decided count
pub decided_count : (row u old : List ℕ) (cell total others entry : ℕ) →
    length u ≡ length row → length old ≡ length row → cell < length row →
    margin row u ≡ total → others ≡ margin row (set old cell 0) → entry ≡ at row cell →
    0 < entry → at u cell < 2 ^ 32 →
    ((k : ℕ) → k ≢ cell → (at row k ≡ 0) ⊎ (at old k ≡ at u k)) →
    (total - others) / entry % 4294967296 ≡ at u cell
decided_count row u old cell total others entry e f h m o n some fits agree =
    let zero_there : at (set old cell 0) cell ≡ 0 = get_or-set_same old cell 0 0 (omega arith) in
    let both = margin_but_one row u (set old cell 0) cell e (length-set old cell 0 ∙ f)
    (λ k ne. elim (agree k ne) [
      | inl z ↦ inl z
      | inr s ↦ inr (sym s ∙ sym (get_or-set_other old cell k 0 0 ne))
    ]) in
    let none : at row cell * at (set old cell 0) cell ≡ 0 =
    ap (λ t. at row cell * t) zero_there ∙ omega arith in
    let product : entry * at u cell ≡ at row cell * at u cell = ap (λ t. t * at u cell) n in
    let left : total - others ≡ entry * at u cell = omega arith in
    ap (λ t. t / entry % 4294967296) left
    ∙ ap (λ t. t % 4294967296) (mul-div_cancel_left (at u cell) some)
    ∙ mod-fits (at u cell) fits

-- the steps from one on
pub steps-drop : (steps : List Peeled) (k : ℕ) (other step : Peeled) → k < length steps →
    get_or steps k other ≡ step → drop k steps ≡ step ∷ drop (k + 1) steps
steps-drop steps k other step h e =
    let n : suc k ≡ k + 1 = omega arith in
    drop-cons steps k other h ∙ ap (λ s. s ∷ drop (suc k) steps) e
    ∙ ap (λ i. step ∷ drop i steps) n

-- what is known while the steps are gone through: the counts of a table at the cells that have no
-- step to come, and at the free cells
pub record IsKnown (steps : List Peeled) (counts u : List ℕ) : Type 0 where
  pub settled : (c : ℕ) → (In c (peeled_cells steps) → ⊥) → at counts c ≡ at u c
  pub free : (c : ℕ) → In c (free_of steps) → at counts c ≡ at u c

-- a free cell is known already
pub known-free : (matrix : Design) (cell : ℕ) (steps : List Peeled) (counts u : List ℕ) →
    IsKnown (Free cell ∷ steps) counts u → IsKnown steps counts u
unfolding In free_of
known-free matrix cell steps counts u known = record {
  settled = λ c n. elim (cases_eq c cell) [
    | inl e ↦ known.free c (inl e)
    | inr ne ↦ known.settled c (λ i. elim i [ inl e ↦ ne e | inr j ↦ n j ])
  ];
  free = λ c i. known.free c (inr i);
}

-- the deciding row counts known cells alone, but for the decided one
pub known-others : (matrix : Design) (cell row : ℕ) (steps : List Peeled) (counts u : List ℕ) →
    IsTriangular matrix (Decided cell row ∷ steps) → IsKnown (Decided cell row ∷ steps) counts u →
    (k : ℕ) → k ≢ cell → (at (row_of matrix row) k ≡ 0) ⊎ (at counts k ≡ at u k)
unfolding In IsTriangular
known-others matrix cell row steps counts u t known k ne =
    elim (cases_In k (peeled_cells steps)) [
      | inl i ↦ inl (t.3 k i)
      | inr n ↦ inr (known.settled k (λ i. elim i [ inl e ↦ ne e | inr j ↦ n j ]))
    ]

-- once a decided cell is written, it is known as well
pub known-decided : (matrix : Design) (cell row : ℕ) (steps : List Peeled)
    (counts next u : List ℕ) →
    IsTriangular matrix (Decided cell row ∷ steps) → IsKnown (Decided cell row ∷ steps) counts u →
    ((k : ℕ) → k ≢ cell → at next k ≡ at counts k) → at next cell ≡ at u cell →
    IsKnown steps next u
unfolding In free_of IsTriangular
known-decided matrix cell row steps counts next u t known others here = record {
  settled = λ c n. elim (cases_eq c cell) [
    | inl e ↦ ap (λ k. at next k) e ∙ here ∙ sym (ap (λ k. at u k) e)
    | inr ne ↦ others c ne ∙ known.settled c (λ i. elim i [ inl e ↦ ne e | inr j ↦ n j ])
  ];
  free = λ c i.
      others c (λ e. t.0 (subst (λ k. In k (peeled_cells steps)) e (free-cell steps c i)))
      ∙ known.free c i;
}

-- the row of a deciding step is one of the matrix
pub triangular-row : (matrix : Design) (cell row : ℕ) (steps : List Peeled) →
    IsTriangular matrix (Decided cell row ∷ steps) → row < matrix.rows
unfolding IsTriangular
triangular-row matrix cell row steps t = t.1

-- the row counts the cell that it decides
pub triangular-some : (matrix : Design) (cell row : ℕ) (steps : List Peeled) →
    IsTriangular matrix (Decided cell row ∷ steps) → 0 < at (row_of matrix row) cell
unfolding IsTriangular
triangular-some matrix cell row steps t = t.2

-- further steps are triangular
pub triangular-more : (matrix : Design) (step : Peeled) (steps : List Peeled) →
    IsTriangular matrix (step ∷ steps) → IsTriangular matrix steps
unfolding IsTriangular
triangular-more matrix (Decided cell row) steps t = t.4
triangular-more matrix (Free cell) steps t = t.1

-- before the first step the free cells are known
pub known-first : (matrix : Design) → IsDesign matrix → (margins counts u : List ℕ) →
    length u ≡ length matrix.columns → length counts ≡ length matrix.columns →
    ((d : Digit) → In d (digits_of matrix margins) → at counts d.cell ≡ at u d.cell) →
    IsKnown (peel_of matrix) counts u
known-first matrix sound margins counts u e f read = record {
  settled = λ c n.
      let cells = length matrix.columns in
      elim (cases_lt c cells) [
        | inl h ↦ absurd (n (cells-all matrix cells (range_with_len 0 cells) c
            (omega (arith, length-range_with_len 0 cells))
            (In-range 0 cells c (omega arith) (omega arith))))
        | inr h ↦ get_or_past counts c 0 (omega arith) ∙ sym (get_or_past u c 0 (omega arith))
      ];
  free = λ c i.
      read (digit_of matrix margins c) (In-map (digit_of matrix margins) c (free_cells matrix) i);
}

-- nothing stands in no list
nothing : (c : ℕ) → In c [] → ⊥
unfolding In
nothing c i = i

-- after the last step all cells are known
pub known-last : (steps : List Peeled) (k : ℕ) (counts u : List ℕ) → length steps ≤ k →
    length counts ≡ length u → IsKnown (drop k steps) counts u → counts ≡ u
known-last steps k counts u h e known =
    same_places counts u e (λ c l. known.settled c (λ i. none_left steps k c h i))
  where
    none_left : (steps : List Peeled) (k c : ℕ) → length steps ≤ k →
        In c (peeled_cells (drop k steps)) → ⊥
    none_left [] zero c h i = nothing c i
    none_left [] (suc k) c h i = nothing c i
    none_left (s ∷ steps) zero c h i = absurd (omega arith)
    none_left (s ∷ steps) (suc k) c h i = none_left steps k c (omega arith) i
