-- The way back in a search tree: tests of steps, one after the other.
use Rattle.std.proofs.Common.{Bool, IfSome, List, Option, Some, [], ap, append_assoc, arith, false, get_or, inl, inr, length, nat_eq, refl, reverse, slice_get, subst, sym, true, ℕ, ℤ, ◌++◌, ◌+◌, ◌<◌, ◌∙◌, ◌∷◌, ◌≡◌, ◌≤◌, ◌⊎◌}
use Rattle.std.proofs.lemmas.List.{reverse-append}
use Rattle.std.proofs.lemmas.Option.{get_or_from_slice_get, slice_get-get_or}
use Rattle.std.specs.Bool.{OnFalse}
use Rattle.std.specs.declared.cmp.Ordering.TheVariants.{Less}
use Rattle.mb_certificate.specs.Valid.{MovesBy, Walks}
use Rattle.mb_paths.proofs.TreePaths.{first-goes_on}
use Rattle.mb_paths.specs.loops.Tree.{AreBorn, GoesOn, GoesOnBy, IsBorn}
use Rattle.mb_rings.proofs.PathOrder.{before-one_way, before-shorter}
use Rattle.mb_rings.specs.ShortestPath.{IsLeastPath, path_cmp, turn}
use Rattle.mb_tables.proofs.ListLaws.{In-place, place-in, place-within}
use Rattle.mb_tables.proofs.OneStep.{moved-one}
use Rattle.mb_tables.specs.Lists.{In}
use Rattle.mb_tables.specs.Step.{Moved}
use Rattle.mb_tables.specs.declared.sign.Sign.{Sign}
use lib.Pointwise.{bytes_decides, pointwise}

-- where what a step makes is told from a table, the step doesn't make that table
pub makes-not : (sign : Sign) (u : List ℕ) (move : List ℤ) (v w : List ℕ) → Moved sign u move v →
    (b : Bool) → b ≡ pointwise nat_eq v w → OnFalse b (Moved sign u move w → ⊥)
makes-not sign u move v w h true e = tt
makes-not sign u move v w h false e = λ k.
    let f : true ≡ false =
    sym ((bytes_decides v w).1 (sym (moved-one sign u move v w h k))) ∙ sym e in cc

-- the table at a place has the width of all
pub wide-at : (tables : List (List ℕ)) (width : ℕ) →
    ((u : List ℕ) → In u tables → length u ≡ width) → (k : ℕ) → k < length tables →
    length (get_or tables k []) ≡ width
wide-at tables width widths k l =
    widths (get_or tables k [])
    (place-in tables k (get_or tables k []) (slice_get-get_or tables k [] l))

-- the signed number, where there is one, is the first that leads from u to v
abbrev pub FirstLeads : List (List ℤ) → List ℕ → List ℕ → Option ℤ → Type 0
FirstLeads moves u v o =
    IfSome o (λ s. MovesBy moves s u v)
    × IfSome o (λ s. (other : ℤ) → MovesBy moves other u v → turn s ≤ turn other)

-- the first signed number that leads from a parent goes on to its child
pub step-goes_on : (moves : List (List ℤ)) (start u v : List ℕ) (o : Option ℤ) (step : ℤ) →
    o ≡ Some step → IfSome o (λ s. MovesBy moves s u v) →
    IfSome o (λ s. (other : ℤ) → MovesBy moves other u v → turn s ≤ turn other) →
    GoesOn moves start u v → ((path : List ℤ) × IsLeastPath moves start path u) →
    GoesOnBy moves start u step v
step-goes_on moves start u v o step e made first g r =
    first-goes_on moves start u v g r step (subst (λ p. IfSome p (λ s. MovesBy moves s u v)) e made)
    (subst (λ p. IfSome p (λ s. (other : ℤ) → MovesBy moves other u v → turn s ≤ turn other)) e
    first)

module _ (moves : List (List ℤ)) (start : List ℕ) (tables : List (List ℕ)) (parents : List ℕ)
    (born : AreBorn moves start tables parents) (b : ℕ) (within : b < length tables)
    (later : b ≡ 0 → ⊥) where
  -- a table behind the first is born
  born-at : IsBorn moves start tables parents b (get_or tables b [])
  born-at =
      elim (born.each b (get_or tables b []) (slice_get-get_or tables b [] within)) [
        | inl e ↦ absurd (later e)
        | inr h ↦ h
      ]

  -- so it has a parent
  pub parent-there : b < length parents
  parent-there = place-within parents b born-at.place born-at.parent

  module _ (p : ℕ) (is : slice_get parents b ≡ Some p) where
    -- this one
    parent-is : born-at.place ≡ p
    parent-is = let e = born-at.parent in cc

    -- which stands before it
    pub parent-before : p < b
    parent-before = let e = parent-is in let l = born-at.before in omega arith

    -- its table
    parent-table : born-at.table ≡ get_or tables p []
    parent-table =
        let e = ap (slice_get tables) (sym parent-is) ∙ born-at.is in
        sym (get_or_from_slice_get tables p born-at.table [] e)

    -- is met
    pub parent-reached : (path : List ℤ) × IsLeastPath moves start path (get_or tables p [])
    parent-reached =
        subst (λ u. (path : List ℤ) × IsLeastPath moves start path u) parent-table born-at.reached

    -- and goes on
    pub parent-goes_on : GoesOn moves start (get_or tables p []) (get_or tables b [])
    parent-goes_on =
        subst (λ u. GoesOn moves start u (get_or tables b [])) parent-table born-at.goes_on

-- the least path from a table to itself
pub least-none : (moves : List (List ℤ)) (u : List ℕ) → IsLeastPath moves u [] u
unfolding Walks
least-none moves u = record {
  leads = refl;
  least = by;
}
  where
    by : (other : List ℤ) → Walks moves other u u → path_cmp other [] ≡ Less → ⊥
    by [] w e = cc
    by (step ∷ other) w e =
        before-one_way [] (step ∷ other)
        (before-shorter [] (step ∷ other) (omega arith)) e

-- a list of steps turned round, with one more at its end
pub turned-push : (path steps : List ℤ) (step : ℤ) →
    (path ++ step ∷ []) ++ reverse steps ≡ path ++ reverse (steps ++ step ∷ [])
turned-push path steps step =
    append_assoc path (step ∷ []) (reverse steps)
    ∙ ap (λ list. path ++ list) (sym (reverse-append steps (step ∷ [])))

-- two tables that are told to be the same
pub told-same : (b : Bool) (v w : List ℕ) → b ≡ pointwise nat_eq v w → b ≡ true → v ≡ w
told-same b v w e t = (bytes_decides v w).0 (sym e ∙ t)

-- and two that are not
pub told-other : (b : Bool) (v w : List ℕ) → b ≡ pointwise nat_eq v w → b ≡ false → v ≡ w → ⊥
told-other b v w e t f =
    let g : true ≡ false = sym ((bytes_decides v w).1 f) ∙ sym e ∙ t in cc

-- a table that stands at none of the places up to one
pub untold-more : (tables : List (List ℕ)) (table x : List ℕ) (place : ℕ) →
    slice_get tables place ≡ Some x → (x ≡ table → ⊥) →
    ((k : ℕ) → k < place → slice_get tables k ≡ Some table → ⊥) → (k : ℕ) → k < place + 1 →
    slice_get tables k ≡ Some table → ⊥
untold-more tables table x place there other before k l e = by (cases k place l)
  where
    cases : (a b : ℕ) → a < b + 1 → (a < b) ⊎ (a ≡ b)
    cases a b h = grind arith

    by : (k < place) ⊎ (k ≡ place) → ⊥
    by (inl m) = before k m e
    by (inr f) =
        let g = ap (slice_get tables) f in
        let same : x ≡ table = cc in other same

-- one that stands at no place stands nowhere
pub untold-all : (tables : List (List ℕ)) (table : List ℕ) →
    ((k : ℕ) → k < length tables → slice_get tables k ≡ Some table → ⊥) → In table tables → ⊥
untold-all tables table none i =
    let r = In-place tables table i in
    none r.0 (place-within tables r.0 table r.1) r.1
