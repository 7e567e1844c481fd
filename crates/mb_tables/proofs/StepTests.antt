-- The tests of steps decide what they say.
use Rattle.std.proofs.Common.{Bool, List, Some, [], ap, false, inl, inr, nat_eq, pos, refl, slice_get, subst, suc, sym, true, zero, ℕ, ℤ, ◌&&◌, ◌+ℤ◌, ◌||◌, ◌∙◌, ◌∷◌, ◌≡◌, ◌⊎◌}
use Rattle.std.specs.Cmp.{signed_Decides}
use Rattle.std.specs.List.{list_any}
use Rattle.std.specs.Ordering.{int_eq}
use lib.Pointwise.{bytes_decides, pointwise}
use Rattle.mb_tables.specs.Laws.{StepsAreDecided}
use Rattle.mb_tables.specs.Lists.{In, stands_in}
use Rattle.mb_tables.specs.Step.{Adds, IsNear, OneApart, adds, is_near, is_step}
use Rattle.std.proofs.lemmas.Bool.{and_parts, or_cases, or_left, or_right}

-- where the test passes, the table and the move make the second table
pub Adds-from_adds : (u : List ℕ) (move : List ℤ) (v : List ℕ) → adds u move v ≡ true →
    Adds u move v
unfolding adds Adds
Adds-from_adds [] [] [] e = tt
Adds-from_adds [] [] (y ∷ v) e = cc
Adds-from_adds [] (z ∷ move) v e = cc
Adds-from_adds (x ∷ u) [] v e = cc
Adds-from_adds (x ∷ u) (z ∷ move) [] e = cc
Adds-from_adds (x ∷ u) (z ∷ move) (y ∷ v) e =
    let r = and_parts (int_eq (pos y) (pos x +ℤ z)) (adds u move v) e in
    ((signed_Decides (pos y) (pos x +ℤ z)).0 r.0, Adds-from_adds u move v r.1)

-- and the other way round
pub adds-yes : (u : List ℕ) (move : List ℤ) (v : List ℕ) → Adds u move v → adds u move v ≡ true
unfolding adds Adds
adds-yes [] [] [] h = refl
adds-yes [] [] (y ∷ v) h = absurd h
adds-yes [] (z ∷ move) v h = absurd h
adds-yes (x ∷ u) [] v h = absurd h
adds-yes (x ∷ u) (z ∷ move) [] h = absurd h
adds-yes (x ∷ u) (z ∷ move) (y ∷ v) h =
    let a = (signed_Decides (pos y) (pos x +ℤ z)).1 h.0 in
    let b = adds-yes u move v h.1 in
    ap (λ t. t && adds u move v) a ∙ b

-- an element that passes a test, of a list of which some element does
some-passes : {X : Type 0} (p : X → Bool) (xs : List X) → list_any p xs ≡ true →
    (k : ℕ) × (x : X) × (slice_get xs k ≡ Some x) × (p x ≡ true)
some-passes p [] e = cc
some-passes p (x ∷ xs) e =
    elim (or_cases (p x) (list_any p xs) e) [
      | inl f ↦ (0, x, refl, f)
      | inr f ↦ let r = some-passes p xs f in (suc r.0, r.1, r.2, r.3)
    ]

-- and the other way round
passes-some : {X : Type 0} (p : X → Bool) (xs : List X) (k : ℕ) (x : X) →
    slice_get xs k ≡ Some x → p x ≡ true → list_any p xs ≡ true
passes-some p [] k x e f = cc
passes-some p (y ∷ xs) zero x e f =
    let g : y ≡ x = cc in or_left (p y) (list_any p xs) (ap p g ∙ f)
passes-some p (y ∷ xs) (suc k) x e f =
    or_right (p y) (list_any p xs) (passes-some p xs k x e f)

-- the same for an element of the list
pub In-passes : {X : Type 0} (p : X → Bool) (xs : List X) → list_any p xs ≡ true →
    (x : X) × In x xs × (p x ≡ true)
unfolding In
In-passes p [] e = cc
In-passes p (x ∷ xs) e =
    elim (or_cases (p x) (list_any p xs) e) [
      | inl f ↦ (x, inl refl, f)
      | inr f ↦ let r = In-passes p xs f in (r.0, inr r.1, r.2)
    ]

-- and the other way round
pub passes-In : {X : Type 0} (p : X → Bool) (xs : List X) (x : X) → In x xs → p x ≡ true →
    list_any p xs ≡ true
unfolding In
passes-In p [] x i f = absurd i
passes-In p (y ∷ xs) x (inl e) f = or_left (p y) (list_any p xs) (ap p (sym e) ∙ f)
passes-In p (y ∷ xs) x (inr i) f = or_right (p y) (list_any p xs) (passes-In p xs x i f)

-- a table that the test finds one step away is one step away
pub OneApart-from_is_step : (moves : List (List ℤ)) (u v : List ℕ) → is_step moves u v ≡ true →
    OneApart moves u v
OneApart-from_is_step moves u v e =
    let r = some-passes (λ move. adds u move v || adds v move u) moves e in
    (r.0, r.1, r.2, by r.1 (or_cases (adds u r.1 v) (adds v r.1 u) r.3))
  where
    by : (move : List ℤ) → (adds u move v ≡ true) ⊎ (adds v move u ≡ true) →
        Adds u move v ⊎ Adds v move u
    by move (inl f) = inl (Adds-from_adds u move v f)
    by move (inr f) = inr (Adds-from_adds v move u f)

-- and the other way round
pub is_step-yes : (moves : List (List ℤ)) (u v : List ℕ) → OneApart moves u v →
    is_step moves u v ≡ true
is_step-yes moves u v h =
    passes-some (λ move. adds u move v || adds v move u) moves h.0 h.1 h.2 (by h.1 h.3)
  where
    by : (move : List ℤ) → Adds u move v ⊎ Adds v move u → (adds u move v || adds v move u) ≡ true
    by move (inl a) = or_left (adds u move v) (adds v move u) (adds-yes u move v a)
    by move (inr a) = or_right (adds u move v) (adds v move u) (adds-yes v move u a)

-- a table that the test finds near a list is one step from a table of the list
pub IsNear-from_is_near : (moves : List (List ℤ)) (list : List (List ℕ)) (v : List ℕ) →
    is_near moves list v ≡ true → IsNear moves list v
IsNear-from_is_near moves list v e =
    let r = In-passes (λ u. is_step moves u v) list e in
    (r.0, r.1, OneApart-from_is_step moves r.0 v r.2)

-- and the other way round
pub is_near-yes : (moves : List (List ℤ)) (list : List (List ℕ)) (v : List ℕ) →
    IsNear moves list v → is_near moves list v ≡ true
is_near-yes moves list v h =
    passes-In (λ u. is_step moves u v) list h.0 h.1 (is_step-yes moves h.0 v h.2)

-- a table that the test finds in a list is in it
pub In-from_stands_in : (list : List (List ℕ)) (v : List ℕ) → stands_in list v ≡ true → In v list
In-from_stands_in list v e =
    let r = In-passes (pointwise nat_eq v) list e in
    subst (λ u. In u list) (sym ((bytes_decides v r.0).0 r.2)) r.1

-- and the other way round
pub stands_in-yes : (list : List (List ℕ)) (v : List ℕ) → In v list → stands_in list v ≡ true
stands_in-yes list v i = passes-In (pointwise nat_eq v) list v i ((bytes_decides v v).1 refl)

-- the test fails where the table is not in the list
pub stands_in-no : (list : List (List ℕ)) (v : List ℕ) → (In v list → ⊥) → stands_in list v ≡ false
stands_in-no list v h = by (stands_in list v) refl
  where
    by : (t : Bool) → stands_in list v ≡ t → stands_in list v ≡ false
    by true e = absurd (h (In-from_stands_in list v e))
    by false e = e

-- and the other way round
pub In-not : (list : List (List ℕ)) (v : List ℕ) → stands_in list v ≡ false → In v list → ⊥
In-not list v e i = let f = stands_in-yes list v i in let g : true ≡ false = sym f ∙ e in cc

-- the law of the tests
pub steps_decided : StepsAreDecided
steps_decided = record {
  made = λ u move v. (Adds-from_adds u move v, adds-yes u move v);
  step = λ moves u v. (OneApart-from_is_step moves u v, is_step-yes moves u v);
  near = λ moves list v. (IsNear-from_is_near moves list v, is_near-yes moves list v);
  listed = λ list v. (In-from_stands_in list v, stands_in-yes list v);
}
