-- A step of a table is the same step at each cell, and what a cell refuses the table refuses.
use Rattle.std.proofs.Common.{All, List, [], ap, arith, drop, get_or, length, pos, refl, subst, suc, sym, ℕ, ℤ, ◌+ℤ◌, ◌<◌, ◌∙◌, ◌∷◌, ◌≡◌}
use Rattle.std.proofs.Math.Seq.{take-append_seam}
use Rattle.std.proofs.lemmas.Int.{ints}
use Rattle.std.specs.List.{refill}
use Rattle.mb_tables.proofs.PartLaws.{entries_of-part}
use Rattle.mb_tables.specs.Counts.{AreCounts, IsTable}
use Rattle.mb_tables.specs.Step.{Adds, Moved}
use Rattle.mb_tables.specs.declared.part.Part.{Part}
use Rattle.mb_tables.specs.declared.sign.Sign.{Sign}
use Rattle.mb_tables.specs.declared.sign.Sign.TheVariants.{Minus, Plus}
use Rattle.mb_tables.specs.loops.Cell.{CanMoveCount, CanMoveParts, CantMovePart, IsMovedCount}
use Rattle.mb_tables.specs.loops.Parts.{AreApart, entries_of}
use Rattle.mb_tables.specs.loops.Turn.{turned}

-- a table whose counts are those of the first moved cell by cell is the first and the move
pub adds_by_cells : (u : List ℕ) (move : List ℤ) (v : List ℕ) →
    length u ≡ length move → length v ≡ length u →
    ((k : ℕ) → k < length u →
    pos (get_or v k 0) ≡ (pos (get_or u k 0) +ℤ get_or move k (pos 0))) →
    Adds u move v
unfolding Adds
adds_by_cells [] [] [] e f h = tt
adds_by_cells [] [] (y ∷ v) e f h = absurd (omega arith)
adds_by_cells [] (z ∷ move) v e f h = absurd (omega arith)
adds_by_cells (x ∷ u) [] v e f h = absurd (omega arith)
adds_by_cells (x ∷ u) (z ∷ move) [] e f h = absurd (omega arith)
adds_by_cells (x ∷ u) (z ∷ move) (y ∷ v) e f h = (
  h 0 (omega arith),
  adds_by_cells u move v (omega arith) (omega arith) (λ k l. h (suc k) (omega arith)),
)

-- and the other way round: what a step does at each cell
pub adds-at : (u : List ℕ) (move : List ℤ) (v : List ℕ) → Adds u move v → (k : ℕ) → k < length u →
    pos (get_or v k 0) ≡ (pos (get_or u k 0) +ℤ get_or move k (pos 0))
unfolding Adds
adds-at [] [] [] h k l = absurd (omega arith)
adds-at [] [] (y ∷ v) h k l = absurd h
adds-at [] (z ∷ move) v h k l = absurd h
adds-at (x ∷ u) [] v h k l = absurd h
adds-at (x ∷ u) (z ∷ move) [] h k l = absurd h
adds-at (x ∷ u) (z ∷ move) (y ∷ v) h ℕ.zero l = h.0
adds-at (x ∷ u) (z ∷ move) (y ∷ v) h (suc k) l = adds-at u move v h.1 k (omega arith)

-- tables one step apart have the same number of cells
pub adds-length : (u : List ℕ) (move : List ℤ) (v : List ℕ) → Adds u move v → length u ≡ length v
unfolding Adds
adds-length [] [] [] h = refl
adds-length [] [] (y ∷ v) h = absurd h
adds-length [] (z ∷ move) v h = absurd h
adds-length (x ∷ u) [] v h = absurd h
adds-length (x ∷ u) (z ∷ move) [] h = absurd h
adds-length (x ∷ u) (z ∷ move) (y ∷ v) h = ap suc (adds-length u move v h.1)

-- counts moved cell by cell are the moved table
pub moved_by_cells : (sign : Sign) (u : List ℕ) (move : List ℤ) (v : List ℕ) →
    length u ≡ length move → length v ≡ length u →
    ((k : ℕ) → k < length u →
    IsMovedCount sign (get_or u k 0) (get_or move k (pos 0)) (get_or v k 0)) →
    Moved sign u move v
moved_by_cells Plus u move v e f h = adds_by_cells u move v e f h
moved_by_cells Minus u move v e f h =
    adds_by_cells v move u (f ∙ e) (sym f)
    (λ k l. let at = h k (omega arith) in omega (arith, ints))

-- the step back leads back
pub moved-back : (sign : Sign) (u : List ℕ) (move : List ℤ) (v : List ℕ) → Moved sign u move v →
    Moved (turned sign) v move u
moved-back Plus u move v h = h
moved-back Minus u move v h = h

-- and a step led forth where one leads back
pub moved-forth : (sign : Sign) (u : List ℕ) (move : List ℤ) (v : List ℕ) →
    Moved (turned sign) v move u → Moved sign u move v
moved-forth Plus u move v h = h
moved-forth Minus u move v h = h

-- where the moved table has counts of 32 bits, each cell can be moved
can_move_each : (sign : Sign) (u : List ℕ) (move : List ℤ) (v : List ℕ) →
    Moved sign u move v → AreCounts v → (k : ℕ) → k < length u →
    CanMoveCount sign (get_or u k 0) (get_or move k (pos 0))
can_move_each Plus u move v h fits k l =
    let e = adds-length u move v h in
    let at = adds-at u move v h k l in
    let small = fits k 0 (omega arith) in
    (omega (arith, ints), omega (arith, ints))
can_move_each Minus u move v h fits k l =
    let e = adds-length v move u h in
    let at = adds-at v move u h k (omega arith) in
    let small = fits k 0 (omega arith) in
    (omega (arith, ints), omega (arith, ints))

-- a part that can't be moved refuses every moved table of 32-bit counts
pub none_moved : (sign : Sign) (u counts : List ℕ) (move : List ℤ) (parts : List Part) →
    counts ≡ u → length u ≡ length move → move ≡ entries_of (length move) parts →
    AreApart parts → All (λ part. part.cell < length move) parts →
    CantMovePart sign counts parts →
    (v : List ℕ) → Moved sign u move v → AreCounts v → ⊥
none_moved sign u counts move parts e wide made apart within some v h fits =
    let none : Part = record { cell = 0; entry = pos 0 } in
    let part = get_or parts some.0 none in
    let cell : part.cell < length move = within some.0 none some.1 in
    let can = can_move_each sign u move v h fits part.cell (omega arith) in
    let entry : get_or move part.cell (pos 0) ≡ part.entry =
    ap (λ list. get_or list part.cell (pos 0)) made
    ∙ entries_of-part (length move) parts apart within some.0 none some.1 in
    some.2 none
    (subst (λ list. CanMoveCount sign (get_or list part.cell 0) part.entry) (sym e)
    (subst (CanMoveCount sign (get_or u part.cell 0)) entry can))

-- after a step of a table each part can be moved back
pub can_move_back : (sign : Sign) (u v counts : List ℕ) (move : List ℤ) (parts : List Part) →
    Moved sign u move v → AreCounts u → counts ≡ v → length v ≡ length move →
    move ≡ entries_of (length move) parts → AreApart parts →
    All (λ part. part.cell < length move) parts →
    CanMoveParts (turned sign) counts parts 0 (length parts)
can_move_back sign u v counts move parts h fits e wide made apart within q d l m =
    let part = get_or parts q d in
    let cell : part.cell < length move = within q d m in
    let can =
    can_move_each (turned sign) v move u (moved-back sign u move v h) fits part.cell
    (omega arith) in
    let entry : get_or move part.cell (pos 0) ≡ part.entry =
    ap (λ list. get_or list part.cell (pos 0)) made
    ∙ entries_of-part (length move) parts apart within q d m in
    subst (λ list. CanMoveCount (turned sign) (get_or list part.cell 0) part.entry) (sym e)
    (subst (CanMoveCount (turned sign) (get_or v part.cell 0)) entry can)

-- the same cells, read again
pub each_again : (sign : Sign) (a b : List ℕ) (parts : List Part) → b ≡ a →
    CanMoveParts sign a parts 0 (length parts) → CanMoveParts sign b parts 0 (length parts)
each_again sign a b parts e h = rw e h

-- counts written over others of the same number are these counts
pub refill_same : (items after : List ℕ) → length after ≡ length items →
    refill (length items) items after ≡ after
refill_same items after e = rw (← e) (take-append_seam after (drop (length after) items))

-- the written counts are a table
pub table_written : (items counts after : List ℕ) → IsTable items → counts ≡ items →
    length after ≡ length counts → AreCounts after →
    IsTable (refill (length items) items after)
table_written items counts after sound e long fits =
    rw (refill_same items after (let a = ap length e in omega arith))
    (record {
      few = let a = ap length e in let b = sound.few in omega arith;
      fits = fits;
    })

-- the written counts are the moved table
pub moved_written : (sign : Sign) (u items counts after : List ℕ) (move : List ℤ)
    (parts : List Part) →
    items ≡ u → counts ≡ items → length u ≡ length move → move ≡ entries_of (length move) parts →
    length after ≡ length counts →
    ((k : ℕ) → k < length counts →
    IsMovedCount sign (get_or counts k 0)
    (get_or (entries_of (length counts) parts) k (pos 0)) (get_or after k 0)) →
    Moved sign u move (refill (length items) items after)
moved_written sign u items counts after move parts e f wide made long h =
    let same : counts ≡ u = f ∙ e in
    let cells : length counts ≡ length move = ap length same ∙ wide in
    rw (refill_same items after (let a = ap length f in omega arith))
    (moved_by_cells sign u move after wide
    (let a = ap length same in omega arith)
    (λ k l.
    subst (λ list. IsMovedCount sign (get_or list k 0) (get_or move k (pos 0)) (get_or after k 0))
    same
    (subst (λ list. IsMovedCount sign (get_or counts k 0) (get_or list k (pos 0))
    (get_or after k 0))
    (ap (λ n. entries_of n parts) cells ∙ sym made)
    (h k (let a = ap length same in omega arith)))))
