-- What holds of some element below a place of a list.
use Rattle.std.proofs.Common.{List, Some, [], ap, arith, get_or, inl, inr, length, slice_get, subst, suc, sym, zero, ℕ, ℤ, ◌+◌, ◌<◌, ◌∷◌, ◌≡◌, ◌⊎◌}
use Rattle.mb_rings.specs.Ring.{Ring}
use Rattle.mb_tables.proofs.ListLaws.{place-in, place-within}
use Rattle.mb_tables.specs.Lists.{In}
use Rattle.mb_tables.specs.Step.{Adds, IsNear, Moved, OneApart}
use Rattle.mb_tables.specs.declared.sign.Sign.TheVariants.{Minus, Plus}

-- the fact holds of some element before place i
pub record SomeBelow {X : Type 0} (xs : List X) (i : ℕ) (P : X → Type 0) : Type 0 where
  pub place : ℕ
  pub below : place < i
  pub element : X
  pub is : slice_get xs place ≡ Some element
  pub holds : P element

-- the element at a place within the list
pub get-there : {X : Type 0} (xs : List X) (i : ℕ) (x : X) → i < length xs → x ≡ get_or xs i x →
    slice_get xs i ≡ Some x
get-there [] i x l e = absurd (omega arith)
get-there (y ∷ xs) zero x l e = ap Some (sym e)
get-there (y ∷ xs) (suc i) x l e = get-there xs i x (omega arith) e

-- some element before the next place is before this one, or it is the one here
pub below-cases : {X : Type 0} (xs : List X) (i : ℕ) (x : X) (P : X → Type 0) →
    slice_get xs i ≡ Some x → SomeBelow xs (i + 1) P → SomeBelow xs i P ⊎ P x
below-cases xs i x P e h = by (cases h.place i)
  where
    cases : (k j : ℕ) → (k < j) ⊎ ((k ≡ j) ⊎ (j < k))
    cases k j = grind arith

    by : (h.place < i) ⊎ ((h.place ≡ i) ⊎ (i < h.place)) → SomeBelow xs i P ⊎ P x
    by (inl l) =
        inl (record {
          place = h.place;
          below = l;
          element = h.element;
          is = h.is;
          holds = h.holds;
        })
    by (inr (inl f)) =
        let g = h.is in
        let k : slice_get xs h.place ≡ slice_get xs i = ap (slice_get xs) f in
        let same : h.element ≡ x = cc in inr (subst P same h.holds)
    by (inr (inr l)) = let m = h.below in absurd (omega arith)

-- and the other way round
pub below-more : {X : Type 0} (xs : List X) (i : ℕ) (x : X) (P : X → Type 0) →
    slice_get xs i ≡ Some x → SomeBelow xs i P ⊎ P x → SomeBelow xs (i + 1) P
below-more xs i x P e (inl h) =
    let l = h.below in
    record { place = h.place; below = omega arith; element = h.element; is = h.is; holds = h.holds }
below-more xs i x P e (inr h) =
    record { place = i; below = omega arith; element = x; is = e; holds = h }

-- nothing is before the first place
pub below-none : {X : Type 0} (xs : List X) (P : X → Type 0) → SomeBelow xs 0 P → ⊥
below-none xs P h = let l = h.below in omega arith

-- some move, added or subtracted, makes v of u
abbrev pub Steps : List ℕ → List ℕ → List ℤ → Type 0
Steps u v move = Adds u move v ⊎ Adds v move u

-- a move before the place does
abbrev pub SteppedBelow : List (List ℤ) → ℕ → List ℕ → List ℕ → Type 0
SteppedBelow moves i u v = SomeBelow moves i (Steps u v)

-- the first moves and then one more, added and subtracted
pub stepped-more : (moves : List (List ℤ)) (i : ℕ) (move : List ℤ) (u v : List ℕ) →
    slice_get moves i ≡ Some move →
    (SteppedBelow moves i u v ⊎ Moved Plus u move v) ⊎ Moved Minus u move v →
    SteppedBelow moves (i + 1) u v
stepped-more moves i move u v e (inl (inl h)) = below-more moves i move (Steps u v) e (inl h)
stepped-more moves i move u v e (inl (inr h)) =
    below-more moves i move (Steps u v) e (inr (inl h))
stepped-more moves i move u v e (inr h) = below-more moves i move (Steps u v) e (inr (inr h))

-- and the other way round
pub stepped-cases : (moves : List (List ℤ)) (i : ℕ) (move : List ℤ) (u v : List ℕ) →
    slice_get moves i ≡ Some move → SteppedBelow moves (i + 1) u v →
    (SteppedBelow moves i u v ⊎ Moved Plus u move v) ⊎ Moved Minus u move v
stepped-cases moves i move u v e h =
    elim (below-cases moves i move (Steps u v) e h) [
      | inl k ↦ inl (inl k)
      | inr k ↦ elim k [ inl a ↦ inl (inr a) | inr a ↦ inr a ]
    ]

-- a step is by one of all moves
pub all-stepped : (moves : List (List ℤ)) (u v : List ℕ) → OneApart moves u v →
    SteppedBelow moves (length moves) u v
all-stepped moves u v h =
    record {
      place = h.0;
      below = place-within moves h.0 h.1 h.2;
      element = h.1;
      is = h.2;
      holds = h.3;
    }

-- some of the moves
pub some-stepped : (moves : List (List ℤ)) (i : ℕ) (u v : List ℕ) → SteppedBelow moves i u v →
    OneApart moves u v
some-stepped moves i u v h = (h.place, h.element, h.is, h.holds)

-- v is one step from a table before the place
abbrev pub NearBelow : List (List ℤ) → Ring → ℕ → List ℕ → Type 0
NearBelow moves ring i v = SomeBelow ring i (λ u. OneApart moves u v)

-- some of the tables
pub some-near : (moves : List (List ℤ)) (ring : Ring) (i : ℕ) (v : List ℕ) →
    NearBelow moves ring i v → IsNear moves ring v
some-near moves ring i v h = (h.element, place-in ring h.place h.element h.is, h.holds)

-- the place of a table
place-there : (u : List ℕ) (ring : Ring) → In u ring → (k : ℕ) × (slice_get ring k ≡ Some u)
unfolding In
place-there u [] i = absurd i
place-there u (x ∷ ring) (inl e) = (0, ap Some (sym e))
place-there u (x ∷ ring) (inr i) = let r = place-there u ring i in (suc r.0, r.1)

-- all tables
pub all-near : (moves : List (List ℤ)) (ring : Ring) (v : List ℕ) → IsNear moves ring v →
    NearBelow moves ring (length ring) v
all-near moves ring v h =
    let r = place-there h.0 ring h.1 in
    record {
      place = r.0;
      below = place-within ring r.0 h.0 r.1;
      element = h.0;
      is = r.1;
      holds = h.2;
    }
