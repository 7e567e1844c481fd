-- The searches of one table and of a ring, step by step.
use Rattle.std.proofs.Common.{List, Some, [], ap, arith, drop, get_or, inl, length, slice_get, subst, sym, ℕ, ℤ, ◌+◌, ◌-◌, ◌<◌, ◌∙◌, ◌≡◌, ◌≤◌, ◌⊎◌}
use Rattle.std.proofs.lemmas.List.{get_or-drop, get_or_append_left, length-drop}
use Rattle.std.proofs.lemmas.Option.{slice_get-get_or}
use Rattle.mb_rings.proofs.PlacesBelow.{NearBelow, SteppedBelow, all-near, all-stepped, below-cases, below-more, some-near, some-stepped, stepped-cases, stepped-more}
use Rattle.mb_rings.proofs.SearchSteps.{IsSearching, finds-none, finds-same, finds-then, over-same, over-then}
use Rattle.mb_rings.specs.loops.Found.{FindsMore, IsSearchFault}
use Rattle.mb_rings.specs.Ring.{Ring}
use Rattle.mb_rings.specs.declared.fault.WalkFault.{WalkFault}
use Rattle.mb_tables.specs.Step.{IsNear, Moved, OneApart}
use Rattle.mb_tables.specs.declared.sign.Sign.TheVariants.{Minus, Plus}

-- a search that has not begun
pub searching-none : (IsSought : List ℕ → Type 0) (limit : ℕ) (before old : List (List ℕ)) →
    ((v : List ℕ) → IsSought v → ⊥) → length before ≤ limit →
    IsSearching IsSought limit before before old old
searching-none IsSought limit before old none room = record {
  finds = finds-none IsSought before old (λ v h fits. absurd (none v h));
  room = room;
}

module _ (moves : List (List ℤ)) (i : ℕ) (move : List ℤ) (there : slice_get moves i ≡ Some move)
    (u : List ℕ) (limit : ℕ) (before old : List (List ℕ)) where
  -- the limit is passed where the move is added
  pub over-plus : (middle half : List (List ℕ)) (fault : WalkFault) →
      IsSearching (SteppedBelow moves i u) limit before middle old half →
      IsSearchFault (Moved Plus u move) limit middle fault →
      IsSearchFault (OneApart moves u) limit before fault
  over-plus middle half fault s h =
      over-same (λ v. SteppedBelow moves i u v ⊎ Moved Plus u move v) (OneApart moves u) limit
      before fault
      (λ v k. some-stepped moves (i + 1) u v (stepped-more moves i move u v there (inl k)))
      (over-then (SteppedBelow moves i u) (Moved Plus u move) limit before middle old half fault
      s.finds h)

  -- the limit is passed where the move is subtracted
  pub over-minus : (middle half after more : List (List ℕ)) (fault : WalkFault) →
      IsSearching (SteppedBelow moves i u) limit before middle old half →
      FindsMore (Moved Plus u move) middle after half more →
      IsSearchFault (Moved Minus u move) limit after fault →
      IsSearchFault (OneApart moves u) limit before fault
  over-minus middle half after more fault s f h =
      over-same (λ v. (SteppedBelow moves i u v ⊎ Moved Plus u move v) ⊎ Moved Minus u move v)
      (OneApart moves u) limit before fault
      (λ v k. some-stepped moves (i + 1) u v (stepped-more moves i move u v there k))
      (over-then (λ v. SteppedBelow moves i u v ⊎ Moved Plus u move v) (Moved Minus u move) limit
      before after old more fault
      (finds-then (SteppedBelow moves i u) (Moved Plus u move) before middle after old half more
      s.finds f) h)

  -- both steps are taken
  pub searching-step : (middle half after more last all : List (List ℕ)) →
      IsSearching (SteppedBelow moves i u) limit before middle old half →
      FindsMore (Moved Plus u move) middle after half more →
      FindsMore (Moved Minus u move) after last more all → length last ≤ limit →
      IsSearching (SteppedBelow moves (i + 1) u) limit before last old all
  searching-step middle half after more last all s f g room = record {
    finds =
        finds-same (λ v. (SteppedBelow moves i u v ⊎ Moved Plus u move v) ⊎ Moved Minus u move v)
        (SteppedBelow moves (i + 1) u) before last old all
        (λ v k. stepped-more moves i move u v there k)
        (λ v k. stepped-cases moves i move u v there k)
        (finds-then (λ v. SteppedBelow moves i u v ⊎ Moved Plus u move v) (Moved Minus u move)
        before after last old more all
        (finds-then (SteppedBelow moves i u) (Moved Plus u move) before middle after old half more
        s.finds f) g);
    room = room;
  }

-- all moves are tried
pub searched-all : (moves : List (List ℤ)) (i : ℕ) (u : List ℕ) (limit : ℕ)
    (before after old new : List (List ℕ)) → i ≡ length moves →
    IsSearching (SteppedBelow moves i u) limit before after old new →
    FindsMore (OneApart moves u) before after old new
searched-all moves i u limit before after old new e s =
    finds-same (SteppedBelow moves i u) (OneApart moves u) before after old new
    (λ v h. some-stepped moves i u v h)
    (λ v h. subst (λ k. SteppedBelow moves k u v) (sym e) (all-stepped moves u v h)) s.finds

module _ (moves : List (List ℤ)) (ring : Ring) (i : ℕ) (u : List ℕ)
    (there : slice_get ring i ≡ Some u) (limit : ℕ) (before old : List (List ℕ)) where
  -- the limit is passed where a table of the ring is expanded
  pub over-ring : (middle half : List (List ℕ)) (fault : WalkFault) →
      IsSearching (NearBelow moves ring i) limit before middle old half →
      IsSearchFault (OneApart moves u) limit middle fault →
      IsSearchFault (IsNear moves ring) limit before fault
  over-ring middle half fault s h =
      over-same (λ v. NearBelow moves ring i v ⊎ OneApart moves u v) (IsNear moves ring) limit
      before fault
      (λ v k. some-near moves ring (i + 1) v
      (below-more ring i u (λ w. OneApart moves w v) there k))
      (over-then (NearBelow moves ring i) (OneApart moves u) limit before middle old half fault
      s.finds h)

  -- the table is expanded
  pub searching-ring : (middle half after more : List (List ℕ)) →
      IsSearching (NearBelow moves ring i) limit before middle old half →
      FindsMore (OneApart moves u) middle after half more → length after ≤ limit →
      IsSearching (NearBelow moves ring (i + 1)) limit before after old more
  searching-ring middle half after more s f room = record {
    finds =
        finds-same (λ v. NearBelow moves ring i v ⊎ OneApart moves u v)
        (NearBelow moves ring (i + 1)) before after old more
        (λ v k. below-more ring i u (λ w. OneApart moves w v) there k)
        (λ v k. below-cases ring i u (λ w. OneApart moves w v) there k)
        (finds-then (NearBelow moves ring i) (OneApart moves u) before middle after old half more
        s.finds f);
    room = room;
  }

-- the whole ring is expanded
pub searched-ring : (moves : List (List ℤ)) (ring : Ring) (i : ℕ) (limit : ℕ)
    (before after old new : List (List ℕ)) → i ≡ length ring →
    IsSearching (NearBelow moves ring i) limit before after old new →
    FindsMore (IsNear moves ring) before after old new
searched-ring moves ring i limit before after old new e s =
    finds-same (NearBelow moves ring i) (IsNear moves ring) before after old new
    (λ v h. some-near moves ring i v h)
    (λ v h. subst (λ k. NearBelow moves ring k v) (sym e) (all-near moves ring v h)) s.finds

-- the table of a ring, where the ring is what stands from a place on
pub ring-at : (tables : List (List ℕ)) (first place : ℕ) → first ≤ place → place < length tables →
    slice_get (drop first tables) (place - first) ≡ Some (get_or tables place [])
ring-at tables first place l m =
    let e : first + (place - first) ≡ place = omega arith in
    let n = length-drop first tables in
    slice_get-get_or (drop first tables) (place - first) [] (omega arith)
    ∙ ap Some (get_or-drop first tables (place - first) [] ∙ ap (λ k. get_or tables k []) e)

-- the tables at first stay where they are
pub found-at : (IsSought : List ℕ → Type 0) (limit : ℕ) (before after old new : List (List ℕ))
    (place : ℕ) → IsSearching IsSought limit before after old new → place < length old →
    get_or new place [] ≡ get_or old place []
found-at IsSought limit before after old new place s l =
    let f = s.finds in
    ap (λ list. get_or list place []) f.listed ∙ get_or_append_left old f.found [] place l
