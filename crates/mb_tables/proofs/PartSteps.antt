-- A step taken part by part: the counts, moved by the parts that are left, come out the same.
use Rattle.std.proofs.Common.{List, [], ap, arith, drop, get_or, inl, inr, length, pos, refl, set, subst, suc, sym, ℕ, ℤ, ◌+ℤ◌, ◌+◌, ◌<◌, ◌∙◌, ◌≡◌, ◌≤◌, ◌⊎◌}
use Rattle.std.proofs.Math.Seq.{drop-cons}
use Rattle.std.proofs.Math.ListN.{drop_of_length-le}
use Rattle.std.proofs.lemmas.Int.{ints}
use Rattle.std.proofs.lemmas.List.{get_or-set_other, get_or-set_same}
use Rattle.mb_tables.proofs.PartLaws.{add_at-here, add_at-other, cells-differ, entries_of-other, length-entries_of}
use Rattle.mb_tables.specs.declared.part.Part.{Part}
use Rattle.mb_tables.specs.declared.sign.Sign.{Sign}
use Rattle.mb_tables.specs.declared.sign.Sign.TheVariants.{Minus, Plus}
use Rattle.mb_tables.specs.loops.Cell.{CanMoveCount, CanMoveParts, IsMovedCount, moved}
use Rattle.mb_tables.specs.loops.Parts.{AreApart, add_at, entries_of}

-- two numbers are equal or not
same_or_not : (k c : ℕ) → (k ≡ c) ⊎ (k ≡ c → ⊥)
same_or_not k c =
    let by : (k < c) ⊎ ((k ≡ c) ⊎ (c < k)) = grind arith in
    elim by [
      | inl l ↦ inr (λ e. omega arith)
      | inr h ↦ elim h [ inl e ↦ inl e | inr l ↦ inr (λ e. omega arith) ]
    ]

-- the counts that are moved once and then moved on
moved_twice : (sign : Sign) (x y : ℕ) (z rest : ℤ) → IsMovedCount sign x z y →
    moved sign y rest ≡ moved sign x (rest +ℤ z)
moved_twice Plus x y z rest e = omega (arith, ints)
moved_twice Minus x y z rest e = omega (arith, ints)

-- one part taken out of the entries that are left, and its cell moved
taken-at : (sign : Sign) (c k y : ℕ) (z : ℤ) (counts : List ℕ) (rest : List ℤ) →
    length rest ≡ length counts → c < length counts →
    IsMovedCount sign (get_or counts c 0) z y →
    moved sign (get_or (set counts c y) k 0) (get_or rest k (pos 0))
    ≡ moved sign (get_or counts k 0) (get_or (add_at c z rest) k (pos 0))
taken-at sign c k y z counts rest e l h = by (same_or_not k c)
  where
    by : (k ≡ c) ⊎ (k ≡ c → ⊥) →
        moved sign (get_or (set counts c y) k 0) (get_or rest k (pos 0))
        ≡ moved sign (get_or counts k 0) (get_or (add_at c z rest) k (pos 0))
    by (inl f) =
        rw f (rw (get_or-set_same counts c y 0 l, add_at-here c z rest (omega arith))
        (moved_twice sign (get_or counts c 0) y z (get_or rest c (pos 0)) h))
    by (inr f) =
        rw (get_or-set_other counts c k y 0 f, add_at-other c k z rest (λ e. f (sym e))) refl

-- the next part taken out of those that are left
pub part_taken : (sign : Sign) (cells p k y : ℕ) (counts : List ℕ) (parts : List Part)
    (d : Part) → p < length parts → length counts ≡ cells → (get_or parts p d).cell < cells →
    IsMovedCount sign (get_or counts (get_or parts p d).cell 0) (get_or parts p d).entry y →
    moved sign (get_or (set counts (get_or parts p d).cell y) k 0)
    (get_or (entries_of cells (drop (p + 1) parts)) k (pos 0))
    ≡ moved sign (get_or counts k 0) (get_or (entries_of cells (drop p parts)) k (pos 0))
unfolding entries_of
part_taken sign cells p k y counts parts d l e w h =
    let next : p + 1 ≡ suc p = omega arith in
    rw (next, drop-cons parts p d l)
    (taken-at sign (get_or parts p d).cell k y (get_or parts p d).entry counts
    (entries_of cells (drop (suc p) parts))
    (length-entries_of cells (drop (suc p) parts) ∙ sym e) (omega arith) h)

-- the later parts can still be moved
pub can_move_later : (sign : Sign) (p y : ℕ) (counts : List ℕ) (parts : List Part) (d : Part) →
    AreApart parts → CanMoveParts sign counts parts p (length parts) →
    CanMoveParts sign (set counts (get_or parts p d).cell y) parts (p + 1) (length parts)
can_move_later sign p y counts parts d a can q e l m =
    subst (λ x. CanMoveCount sign x (get_or parts q e).entry)
    (sym (get_or-set_other counts (get_or parts p d).cell (get_or parts q e).cell y 0
    (λ f. cells-differ parts a p q d e (omega arith) m (sym f))))
    (can q e (omega arith) m)

-- a count moved by 0
moved_none : (sign : Sign) (x : ℕ) (z : ℤ) → z ≡ pos 0 → moved sign x z ≡ pos x
moved_none Plus x z e = omega (arith, ints)
moved_none Minus x z e = omega (arith, ints)

-- when no part is left, the counts are the moved ones
pub all_taken : (sign : Sign) (cells p k x y : ℕ) (z : ℤ) (parts : List Part) →
    length parts ≤ p →
    moved sign y (get_or (entries_of cells (drop p parts)) k (pos 0)) ≡ moved sign x z →
    IsMovedCount sign x z y
all_taken sign cells p k x y z parts l e =
    sym (moved_none sign y (get_or (entries_of cells (drop p parts)) k (pos 0))
    (ap (λ list. get_or (entries_of cells list) k (pos 0)) (drop_of_length-le parts l)
    ∙ entries_of-other cells k [] tt))
    ∙ e
