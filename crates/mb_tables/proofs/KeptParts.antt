-- The parts that are picked of a move's entries are as the program keeps them: each of a cell of
-- its
-- own, and the entries are those of the move.
use Rattle.std.proofs.Common.{Bool, List, [], ap, arith, cond, false, get_or, length, negsuc, pos, refl, subst, suc, sym, true, ℕ, ℤ, ◌++◌, ◌+◌, ◌<◌, ◌∙◌, ◌∷◌, ◌≡◌, ◌≤◌}
use Rattle.std.proofs.lemmas.Bool.Decides.{nat_tests}
use Rattle.std.proofs.lemmas.List.Elements.{All-from_recursion}
use Rattle.std.specs.List.{AllByRecursion}
use Rattle.mb_tables.proofs.PickedParts.{parts_of, picked-entries}
use Rattle.mb_tables.specs.Entries.{AreEntries}
use Rattle.mb_tables.specs.declared.part.Part.{Part}
use Rattle.mb_tables.specs.loops.Parts.{AreApart, AreMoveParts, is_high, is_low, picked}

-- what follows from a fact follows for each part
each-part : (P Q : Part → Type 0) → ((part : Part) → P part → Q part) → (parts : List Part) →
    AllByRecursion P parts → AllByRecursion Q parts
each-part P Q f [] h = tt
each-part P Q f (part ∷ parts) h = (f part h.0, each-part P Q f parts h.1)

-- a fact of the parts of two lists
both-parts : (P : Part → Type 0) (xs ys : List Part) → AllByRecursion P xs → AllByRecursion P ys →
    AllByRecursion P (xs ++ ys)
both-parts P [] ys h k = k
both-parts P (x ∷ xs) ys h k = (h.0, both-parts P xs ys h.1 k)

-- a picked part has a cell from k on, whose entry passes the test
abbrev IsPicked : (ℤ → Bool) → List ℤ → ℕ → Part → Type 0
IsPicked test all k part =
    (k ≤ part.cell) × (part.cell < length all) × (test (get_or all part.cell (pos 0)) ≡ true)

-- each picked part does
picked-is : (test : ℤ → Bool) (all : List ℤ) (k : ℕ) (entries : List ℤ) →
    k + length entries ≡ length all →
    ((i : ℕ) → get_or entries i (pos 0) ≡ get_or all (k + i) (pos 0)) →
    AllByRecursion (IsPicked test all k) (picked test k entries)
unfolding picked
picked-is test all k [] e h = tt
picked-is test all k (z ∷ entries) e h =
    by (test z) refl
    (each-part (IsPicked test all (suc k)) (IsPicked test all k)
    (λ part q. (let l = q.0 in omega arith, q.1, q.2)) (picked test (suc k) entries)
    (picked-is test all (suc k) entries (omega arith)
    (λ i. let n : k + suc i ≡ suc k + i = omega arith in
    h (suc i) ∙ ap (λ m. get_or all m (pos 0)) n)))
  where
    here : k + 0 ≡ k
    here = omega arith

    by : (t : Bool) → test z ≡ t →
        AllByRecursion (IsPicked test all k) (picked test (suc k) entries) →
        AllByRecursion (IsPicked test all k)
        (cond t (record { cell = k; entry = z } ∷ picked test (suc k) entries)
        (picked test (suc k) entries))
    by true f g = (
      (
        omega arith,
        omega arith,
        ap test (ap (λ m. get_or all m (pos 0)) (sym here) ∙ sym (h 0)) ∙ f,
      ),
      g,
    )
    by false f g = g

-- no cell is picked twice
apart-picked : (test : ℤ → Bool) (all : List ℤ) (k : ℕ) (entries : List ℤ) →
    k + length entries ≡ length all →
    ((i : ℕ) → get_or entries i (pos 0) ≡ get_or all (k + i) (pos 0)) →
    AreApart (picked test k entries)
unfolding picked AreApart
apart-picked test all k [] e h = tt
apart-picked test all k (z ∷ entries) e h =
    let later = λ (i : ℕ).
    let n : k + suc i ≡ suc k + i = omega arith in
    h (suc i) ∙ ap (λ m. get_or all m (pos 0)) n in
    by (test z)
    (each-part (IsPicked test all (suc k)) (λ part. k ≡ part.cell → ⊥)
    (λ part q f. let l = q.0 in omega arith) (picked test (suc k) entries)
    (picked-is test all (suc k) entries (omega arith) later))
    (apart-picked test all (suc k) entries (omega arith) later)
  where
    by : (t : Bool) → AllByRecursion (λ part. k ≡ part.cell → ⊥) (picked test (suc k) entries) →
        AreApart (picked test (suc k) entries) →
        AreApart
        (cond t (record { cell = k; entry = z } ∷ picked test (suc k) entries)
        (picked test (suc k) entries))
    by true f g = (f, g)
    by false f g = g

-- two lists of parts without a common cell
apart-append : (xs ys : List Part) → AreApart xs → AreApart ys →
    AllByRecursion (λ x. AllByRecursion (λ y. x.cell ≡ y.cell → ⊥) ys) xs → AreApart (xs ++ ys)
unfolding AreApart
apart-append [] ys a b h = b
apart-append (x ∷ xs) ys a b h = (
  both-parts (λ y. x.cell ≡ y.cell → ⊥) xs ys a.0 h.0,
  apart-append xs ys a.1 b h.1,
)

-- no entry is both below 0 and above it
not_both : (z : ℤ) → is_low z ≡ true → is_high z ≡ true → ⊥
not_both (pos n) e f = grind (arith, nat_tests)
not_both (negsuc n) e f = grind (arith, nat_tests)

-- no more parts are picked than there are entries
pub length-picked : (test : ℤ → Bool) (k : ℕ) (entries : List ℤ) →
    length (picked test k entries) ≤ length entries
unfolding picked
length-picked test k [] = omega arith
length-picked test k (z ∷ entries) = by (test z) (length-picked test (suc k) entries)
  where
    by : (t : Bool) → length (picked test (suc k) entries) ≤ length entries →
        length
        (cond t (record { cell = k; entry = z } ∷ picked test (suc k) entries)
        (picked test (suc k) entries))
        ≤ suc (length entries)
    by true l = omega arith
    by false l = omega arith

-- the parts of the entries of a move are as the program keeps them
pub are_parts : (entries : List ℤ) (lows : ℕ) → AreEntries entries →
    lows ≤ length (parts_of entries) → AreMoveParts (length entries) lows (parts_of entries)
are_parts entries lows sound split =
    let low = picked is_low 0 entries in
    let high = picked is_high 0 entries in
    let long : 0 + length entries ≡ length entries = omega arith in
    let same = λ (i : ℕ).
    let n : i ≡ 0 + i = omega arith in ap (λ m. get_or entries m (pos 0)) n in
    let lows_are = picked-is is_low entries 0 entries long same in
    let highs_are = picked-is is_high entries 0 entries long same in
    record {
      within =
          All-from_recursion (λ part. part.cell < length entries) (parts_of entries)
          (both-parts (λ part. part.cell < length entries) low high
          (each-part (IsPicked is_low entries 0) (λ part. part.cell < length entries)
          (λ part q. q.1) low lows_are)
          (each-part (IsPicked is_high entries 0) (λ part. part.cell < length entries)
          (λ part q. q.1) high highs_are));
      apart =
          apart-append low high
          (apart-picked is_low entries 0 entries long same)
          (apart-picked is_high entries 0 entries long same)
          (each-part (IsPicked is_low entries 0)
          (λ x. AllByRecursion (λ y. x.cell ≡ y.cell → ⊥) high)
          (λ x p.
          each-part (IsPicked is_high entries 0) (λ y. x.cell ≡ y.cell → ⊥)
          (λ y q f.
          not_both (get_or entries y.cell (pos 0))
          (subst (λ c. is_low (get_or entries c (pos 0)) ≡ true) f p.2) q.2)
          high highs_are)
          low lows_are);
      sound = subst AreEntries (sym (picked-entries entries)) sound;
      split = split;
    }
