-- A step can be taken exactly from a table that has what it needs.
use Rattle.std.proofs.Common.{All, Bool, List, [], ap, append-nil, append_assoc, arith, cond, drop, false, get_or, length, nat_abs, negsuc, pos, refl, slice_index_or, subst, suc, sym, true, zero, ℕ, ℤ, ◌++◌, ◌+◌, ◌-◌, ◌<◌, ◌∙◌, ◌∷◌, ◌≡◌, ◌≤◌}
use Rattle.std.proofs.Math.ListN.{drop_of_length-le}
use Rattle.std.proofs.Math.Seq.{drop-cons}
use Rattle.std.proofs.lemmas.Bool.{ltb-true}
use Rattle.std.proofs.lemmas.Bool.Decides.{nat_tests}
use Rattle.std.proofs.lemmas.Int.{ints}
use Rattle.std.proofs.lemmas.List.Elements.{All-cons, All-head, All-nil, All-tail}
use Rattle.mb_keyed.specs.loops.Needs.{AreNeeds, Has, needs_of, takes}
use Rattle.mb_keyed.specs.declared.needs.Need.{Need}
use Rattle.mb_tables.specs.Step.{Adds, Moved}
use Rattle.mb_tables.specs.declared.sign.Sign.{Sign}
use Rattle.mb_tables.specs.declared.sign.Sign.TheVariants.{Minus, Plus}
use Rattle.mb_tables.specs.loops.Cell.{IsMovedCount}

-- a need of a cell with this entry
abbrev pub need_at : ℕ → ℤ → Need
need_at k z = record { cell = k; count = nat_abs z }

-- the cells from one on are that cell and those behind it
drop-here : {X : Type 0} (xs : List X) (k : ℕ) (d : X) → k < length xs →
    drop k xs ≡ get_or xs k d ∷ drop (k + 1) xs
drop-here xs k d l =
    let next : suc k ≡ k + 1 = omega arith in
    drop-cons xs k d l ∙ ap (λ n. get_or xs k d ∷ drop n xs) next

-- the needs from one cell on are that of the cell, if it has one, and those behind it
needs-drop : (sign : Sign) (k : ℕ) (entries : List ℤ) (d : ℤ) → k < length entries →
    needs_of sign k (drop k entries)
    ≡ cond (takes sign (get_or entries k d))
    (need_at k (get_or entries k d) ∷ needs_of sign (k + 1) (drop (k + 1) entries))
    (needs_of sign (k + 1) (drop (k + 1) entries))
unfolding needs_of
needs-drop sign k entries d l = rw (drop-here entries k d l) refl

-- a need is put behind the others
pub needs-yes : (sign : Sign) (k : ℕ) (entries : List ℤ) (d z : ℤ) (items after all : List Need) →
    k < length entries → get_or entries k d ≡ z → takes sign z ≡ true →
    after ≡ items ++ need_at k z ∷ [] → items ++ needs_of sign k (drop k entries) ≡ all →
    after ++ needs_of sign (k + 1) (drop (k + 1) entries) ≡ all
needs-yes sign k entries d z items after all l at e f h =
    let rest = needs_of sign (k + 1) (drop (k + 1) entries) in
    ap (λ list. list ++ rest) f
    ∙ append_assoc items (need_at k z ∷ []) rest
    ∙ ap (λ list. items ++ list)
    (sym (needs-drop sign k entries d l
    ∙ ap (λ y. cond (takes sign y) (need_at k y ∷ rest) rest) at
    ∙ ap (λ t. cond t (need_at k z ∷ rest) rest) e))
    ∙ h

-- any other cell is passed over
pub needs-no : (sign : Sign) (k : ℕ) (entries : List ℤ) (d z : ℤ) (items all : List Need) →
    k < length entries → get_or entries k d ≡ z → takes sign z ≡ false →
    items ++ needs_of sign k (drop k entries) ≡ all →
    items ++ needs_of sign (k + 1) (drop (k + 1) entries) ≡ all
needs-no sign k entries d z items all l at e h =
    let rest = needs_of sign (k + 1) (drop (k + 1) entries) in
    ap (λ list. items ++ list)
    (sym (needs-drop sign k entries d l
    ∙ ap (λ y. cond (takes sign y) (need_at k y ∷ rest) rest) at
    ∙ ap (λ t. cond t (need_at k z ∷ rest) rest) e))
    ∙ h

-- behind the last cell nothing is needed
pub needs-end : (sign : Sign) (k : ℕ) (entries : List ℤ) (items all : List Need) →
    length entries ≤ k → items ++ needs_of sign k (drop k entries) ≡ all → items ≡ all
unfolding needs_of
needs-end sign k entries items all l h =
    sym (ap (λ list. items ++ needs_of sign k list) (drop_of_length-le entries l)
    ∙ append-nil items)
    ∙ h

-- one count can be moved where it is no less than what is taken away
can_move : (sign : Sign) (x : ℕ) (z : ℤ) → (takes sign z ≡ true → nat_abs z ≤ x) →
    (y : ℕ) × IsMovedCount sign x z y
can_move Plus x (pos n) h = (x + n, omega (arith, ints))
can_move Plus x (negsuc n) h = let l : suc n ≤ x = h refl in (x - suc n, omega (arith, ints))
can_move Minus x (pos zero) h = (x, omega (arith, ints))
can_move Minus x (pos (suc n)) h =
    let t : takes Minus (pos (suc n)) ≡ true = grind (arith, nat_tests) in
    let l : suc n ≤ x = h t in (x - suc n, omega (arith, ints))
can_move Minus x (negsuc n) h = (x + suc n, omega (arith, ints))

-- and only there
moved-most : (sign : Sign) (x : ℕ) (z : ℤ) (y : ℕ) → IsMovedCount sign x z y →
    takes sign z ≡ true → nat_abs z ≤ x
moved-most Plus x (pos n) y e t = absurd (omega (arith, ltb-true n 0 t))
moved-most Plus x (negsuc n) y e t = omega (arith, ints)
moved-most Minus x (pos n) y e t = omega (arith, ints)
moved-most Minus x (negsuc n) y e t = absurd cc

-- a cell more is moved
moved-cons : (sign : Sign) (x y : ℕ) (z : ℤ) (u v : List ℕ) (move : List ℤ) →
    IsMovedCount sign x z y → Moved sign u move v → Moved sign (x ∷ u) (z ∷ move) (y ∷ v)
unfolding Adds
moved-cons Plus x y z u v move e h = (e, h)
moved-cons Minus x y z u v move e h = (omega (arith, ints), h)

-- the first cell of a step, and the others
moved-first : (sign : Sign) (x : ℕ) (z : ℤ) (u v : List ℕ) (move : List ℤ) →
    Moved sign (x ∷ u) (z ∷ move) v →
    ((y : ℕ) × IsMovedCount sign x z y) × ((w : List ℕ) × Moved sign u move w)
unfolding Adds
moved-first Plus x z u [] move h = absurd h
moved-first Plus x z u (y ∷ v) move h = ((y, h.0), (v, h.1))
moved-first Minus x z u [] move h = absurd h
moved-first Minus x z u (y ∷ v) move h = let e = h.0 in ((y, omega (arith, ints)), (v, h.1))

-- no cell is moved
moved-none : (sign : Sign) → Moved sign [] [] []
unfolding Adds
moved-none Plus = tt
moved-none Minus = tt

module _ (P : Need → Type 0) where
  -- the first need and the others
  split : (t : Bool) (need : Need) (rest : List Need) → All P (cond t (need ∷ rest) rest) →
      (t ≡ true → P need) × All P rest
  split true need rest h = (λ e. All-head P need rest h, All-tail P need rest h)
  split false need rest h = (λ e. absurd cc, h)

  -- and both together
  joined : (t : Bool) (need : Need) (rest : List Need) → (t ≡ true → P need) → All P rest →
      All P (cond t (need ∷ rest) rest)
  joined true need rest p h = All-cons P need rest (p refl) h
  joined false need rest p h = h

-- from cell k on: a table that has what is needed can be moved
enough : (sign : Sign) (u : List ℕ) (move : List ℤ) (k : ℕ) → length u ≡ k + length move →
    Has u (needs_of sign k move) → (v : List ℕ) × Moved sign (drop k u) move v
unfolding needs_of
enough sign u [] k e h =
    subst (λ (rest : List ℕ). (v : List ℕ) × Moved sign rest [] v)
    (sym (drop_of_length-le u (omega arith))) ([], moved-none sign)
enough sign u (z ∷ move) k e h =
    let parts =
    split (λ need. need.count ≤ slice_index_or u need.cell 0) (takes sign z) (need_at k z)
    (needs_of sign (k + 1) move) h in
    let here = can_move sign (get_or u k 0) z parts.0 in
    let rest = enough sign u move (k + 1) (omega arith) parts.1 in
    subst (λ (cells : List ℕ). (v : List ℕ) × Moved sign cells (z ∷ move) v)
    (sym (drop-here u k 0 (omega arith))) (
      here.0 ∷ rest.0,
      moved-cons sign (get_or u k 0) here.0 z (drop (k + 1) u) rest.0 move here.1 rest.1,
    )

-- and only such a table
wanted : (sign : Sign) (u : List ℕ) (move : List ℤ) (k : ℕ) → length u ≡ k + length move →
    (v : List ℕ) → Moved sign (drop k u) move v → Has u (needs_of sign k move)
unfolding needs_of
wanted sign u [] k e v h = All-nil (λ need. need.count ≤ slice_index_or u need.cell 0)
wanted sign u (z ∷ move) k e v h =
    let parts =
    moved-first sign (get_or u k 0) z (drop (k + 1) u) v move
    (subst (λ (cells : List ℕ). Moved sign cells (z ∷ move) v) (drop-here u k 0 (omega arith)) h) in
    joined (λ need. need.count ≤ slice_index_or u need.cell 0) (takes sign z) (need_at k z)
    (needs_of sign (k + 1) move)
    (λ t. moved-most sign (get_or u k 0) z parts.0.0 parts.0.1 t)
    (wanted sign u move (k + 1) (omega arith) parts.1.0 parts.1.1)

-- each need is of a cell from k on
within : (sign : Sign) (move : List ℤ) (cells k : ℕ) → k + length move ≤ cells →
    All (λ need. need.cell < cells) (needs_of sign k move)
unfolding needs_of
within sign [] cells k l = All-nil (λ need. need.cell < cells)
within sign (z ∷ move) cells k l =
    joined (λ need. need.cell < cells) (takes sign z) (need_at k z) (needs_of sign (k + 1) move)
    (λ t. omega arith) (within sign move cells (k + 1) (omega arith))

-- the needs of all cells are what a step needs
pub are_needs : (cells : ℕ) (sign : Sign) (move : List ℤ) → length move ≡ cells →
    AreNeeds cells sign move (needs_of sign 0 move)
are_needs cells sign move e = record {
  within = within sign move cells 0 (omega arith);
  enough = λ u l h. enough sign u move 0 (omega arith) h;
  wanted = λ u v l h. wanted sign u move 0 (omega arith) v h;
}
