-- The steps of one table, turn by turn.
use Rattle.std.proofs.Common.{List, Some, [], ap, append-nil, append_assoc, arith, inl, inr, length, map, negsuc, pos, refl, slice_get, subst, suc, sym, zero, ℕ, ℤ, ◌++◌, ◌+◌, ◌<◌, ◌∙◌, ◌∷◌, ◌≡◌, ◌≤◌, ◌⊎◌}
use Rattle.std.proofs.lemmas.List.{append_cancel_left, map-append}
use Rattle.mb_certificate.specs.Valid.{MovesBy}
use Rattle.mb_rings.proofs.DistinctTables.{distinct-head, permutation-In}
use Rattle.mb_rings.proofs.PathOrder.{turn-one}
use Rattle.mb_rings.proofs.SearchSteps.{finds-same, finds-then}
use Rattle.mb_rings.specs.ShortestPath.{turn}
use Rattle.mb_rings.specs.loops.Found.{AreDistinct, FindsMore}
use Rattle.mb_rings.specs.loops.InTurn.{AddsInTurn, EachLater, IsSooner, Mark, MetBy, turns_of}
use Rattle.mb_tables.proofs.ListLaws.{In-cases, In-left, In-map, In-map_range, In-right, place-within}
use Rattle.mb_tables.proofs.OneStep.{moved-one}
use Rattle.mb_tables.specs.Counts.{AreCounts}
use Rattle.mb_tables.specs.Lists.{In}
use Rattle.mb_tables.specs.Step.{Moved}
use Rattle.mb_tables.specs.declared.sign.Sign.TheVariants.{Minus, Plus}

-- two lists, each element of the first before each of the second
pub later-append : {X : Type 0} (R : X → X → Type 0) (xs ys : List X) → EachLater R xs →
    EachLater R ys → ((x y : X) → In x xs → In y ys → R x y) → EachLater R (xs ++ ys)
unfolding EachLater In
later-append R [] ys a b h = b
later-append R (x ∷ xs) ys a b h = (
  (λ y i. elim (In-cases y xs ys i) [ inl j ↦ a.0 y j | inr j ↦ h x y (inl refl) j ]),
  later-append R xs ys a.1 b (λ u y i j. h u y (inr i) j),
)

-- a table with the signed number that makes it
abbrev mark : ℤ → List ℕ → Mark
mark step w = record { step = step; table = w }

-- tables marked with one number, which makes one table at most, and of which none stands twice
later-one : (step : ℤ) (found : List (List ℕ)) → AreDistinct found →
    ((v w : List ℕ) → In v found → In w found → v ≡ w) → EachLater IsSooner (map (mark step) found)
unfolding EachLater In
later-one step [] d one = tt
later-one step (x ∷ []) d one = ((λ y i. absurd i), tt)
later-one step (x ∷ y ∷ found) d one =
    absurd (distinct-head x (y ∷ found) d (inl (one x y (inl refl) (inr (inl refl)))))

-- the tables of marked tables
tables-marked : (step : ℤ) (found : List (List ℕ)) →
    map (λ (m : Mark). m.table) (map (mark step) found) ≡ found
tables-marked step [] = refl
tables-marked step (x ∷ found) = ap (λ list. x ∷ list) (tables-marked step found)

-- a signed number that leads somewhere has a turn from 2 on
turn-from : (moves : List (List ℤ)) (step : ℤ) (u v : List ℕ) → MovesBy moves step u v →
    2 ≤ turn step
turn-from moves (pos zero) u v h = absurd h
turn-from moves (pos (suc k)) u v h = omega arith
turn-from moves (negsuc k) u v h = omega arith

-- and one before the end
pub turn-within : (moves : List (List ℤ)) (step : ℤ) (u v : List ℕ) → MovesBy moves step u v →
    turn step < turns_of (length moves)
turn-within moves (pos zero) u v h = absurd h
turn-within moves (pos (suc k)) u v h = let l = place-within moves k h.0 h.1 in omega arith
turn-within moves (negsuc k) u v h = let l = place-within moves k h.0 h.1 in omega arith

-- before the first turn
pub adds-none : (moves : List (List ℤ)) (u : List ℕ) (before old : List (List ℕ)) →
    AddsInTurn moves u (turns_of 0) before old old
unfolding In EachLater
adds-none moves u before old = record {
  marks = [];
  listed = sym (append-nil old);
  made = λ m i. absurd i;
  sooner = tt;
  ended = λ m i. absurd i;
  all = λ step v l h fits. let m = turn-from moves step u v h in absurd (omega arith);
}

module _ (moves : List (List ℤ)) (u : List ℕ) (step : ℤ) (end : ℕ) (now : turn step ≡ end)
    (IsSought : List ℕ → Type 0) (before middle after old half new : List (List ℕ))
    (f : FindsMore IsSought before middle old half) (a : AddsInTurn moves u end before old half)
    (g : FindsMore (MovesBy moves step u) middle after half new)
    (one : (v w : List ℕ) → MovesBy moves step u v → MovesBy moves step u w → v ≡ w) where
  -- the marks of the turn
  abbrev more : List Mark
  more = map (mark step) g.found

  -- the tables that were found before it
  found-is : f.found ≡ map (λ (m : Mark). m.table) a.marks
  found-is =
      append_cancel_left old f.found (map (λ (m : Mark). m.table) a.marks)
      (sym f.listed ∙ a.listed)

  -- a mark of the turn
  more-is : (m : Mark) → In m more → (m.step ≡ step) × In m.table g.found
  more-is m i =
      let r = In-map_range (mark step) m g.found i in (
        ap (λ (n : Mark). n.step) r.2,
        subst (λ v. In v g.found) (sym (ap (λ (n : Mark). n.table) r.2)) r.1,
      )

  -- a table that was visited before the turn is an earlier one or has a mark
  seen : (t : ℤ) (v : List ℕ) → end ≤ turn t → In v middle →
      In v before ⊎ MetBy (a.marks ++ more) t v
  seen t v l i =
      elim (In-cases v before f.found
      (permutation-In (before ++ f.found) middle v f.finds.visited i)) [
        | inl j ↦ inl j
        | inr j ↦
            let r =
            In-map_range (λ (m : Mark). m.table) v a.marks (subst (In v) found-is j) in
            inr (record {
              mark = r.0;
              there = In-left r.0 a.marks more r.1;
              is = sym r.2;
              soon = let m = a.ended r.0 r.1 in omega arith;
            })
      ]

  -- a table that the turn makes is visited after it
  turned : (v : List ℕ) → MovesBy moves step u v → AreCounts v →
      In v before ⊎ MetBy (a.marks ++ more) step v
  turned v h fits =
      elim (In-cases v middle g.found
      (permutation-In (middle ++ g.found) after v g.finds.visited (g.finds.all v h fits))) [
        | inl j ↦ seen step v (omega arith) j
        | inr j ↦
            inr (record {
              mark = mark step v;
              there = In-right (mark step v) a.marks more (In-map (mark step) v g.found j);
              is = refl;
              soon = omega arith;
            })
      ]

  -- one turn more
  pub adds-more : AddsInTurn moves u (end + 1) before old new
  adds-more = record {
    marks = a.marks ++ more;
    listed =
        g.listed ∙ ap (λ list. list ++ g.found) a.listed
        ∙ append_assoc old (map (λ (m : Mark). m.table) a.marks) g.found
        ∙ ap (λ list. old ++ list)
        (ap (λ list. map (λ (m : Mark). m.table) a.marks ++ list) (sym (tables-marked step g.found))
        ∙ sym (map-append (λ (m : Mark). m.table) a.marks more));
    made = λ m i. elim (In-cases m a.marks more i) [
      | inl j ↦ a.made m j
      | inr j ↦
          let r = more-is m j in
          subst (λ t. MovesBy moves t u m.table) (sym r.0) (g.finds.sought m.table r.1)
    ];
    sooner =
        later-append IsSooner a.marks more a.sooner
        (later-one step g.found g.finds.once
        (λ v w i j. one v w (g.finds.sought v i) (g.finds.sought w j)))
        (λ m n i j. let l = a.ended m i in let r = ap turn (more-is n j).0 in omega arith);
    ended = λ m i. elim (In-cases m a.marks more i) [
      | inl j ↦ let l = a.ended m j in omega arith
      | inr j ↦ let r = ap turn (more-is m j).0 in omega arith
    ];
    all = λ t v l h fits. by t v (cases (turn t) end l) h fits;
  }
    where
      cases : (i n : ℕ) → i < n + 1 → (i < n) ⊎ (i ≡ n)
      cases i n l = grind arith

      by : (t : ℤ) (v : List ℕ) → (turn t < end) ⊎ (turn t ≡ end) → MovesBy moves t u v →
          AreCounts v → In v before ⊎ MetBy (a.marks ++ more) t v
      by t v (inl l) h fits =
          elim (a.all t v l h fits) [
            | inl j ↦ inl j
            | inr m ↦
                inr (record {
                  mark = m.mark;
                  there = In-left m.mark a.marks more m.there;
                  is = m.is;
                  soon = m.soon;
                })
          ]
      by t v (inr e) h fits =
          let same : t ≡ step = turn-one t step (e ∙ sym now) in
          let r = turned v (subst (λ x. MovesBy moves x u v) same h) fits in
          subst (λ x. In v before ⊎ MetBy (a.marks ++ more) x v) (sym same) r

-- a signed number makes one table at most
pub moves_by-one : (moves : List (List ℤ)) (step : ℤ) (u v w : List ℕ) → MovesBy moves step u v →
    MovesBy moves step u w → v ≡ w
moves_by-one moves (pos zero) u v w h k = absurd h
moves_by-one moves (pos (suc i)) u v w h k =
    let e : h.0 ≡ k.0 = (let a = h.1 in let b = k.1 in cc) in
    sym (moved-one Plus u k.0 v w (subst (λ m. Moved Plus u m v) e h.2) k.2)
moves_by-one moves (negsuc i) u v w h k =
    let e : h.0 ≡ k.0 = (let a = h.1 in let b = k.1 in cc) in
    sym (moved-one Minus u k.0 v w (subst (λ m. Moved Minus u m v) e h.2) k.2)

module _ (moves : List (List ℤ)) (i : ℕ) (move : List ℤ) (there : slice_get moves i ≡ Some move)
    (u : List ℕ) where
  -- what is found by adding the move
  plus-found : (before after old new : List (List ℕ)) →
      FindsMore (Moved Plus u move) before after old new →
      FindsMore (MovesBy moves (pos (suc i)) u) before after old new
  plus-found before after old new f =
      finds-same (Moved Plus u move) (MovesBy moves (pos (suc i)) u) before after old new
      (λ v h. (move, there, h))
      (λ v h. let e : h.0 ≡ move = (let a = h.1 in cc) in subst (λ m. Moved Plus u m v) e h.2) f

  -- and by subtracting it
  minus-found : (before after old new : List (List ℕ)) →
      FindsMore (Moved Minus u move) before after old new →
      FindsMore (MovesBy moves (negsuc i) u) before after old new
  minus-found before after old new f =
      finds-same (Moved Minus u move) (MovesBy moves (negsuc i) u) before after old new
      (λ v h. (move, there, h))
      (λ v h. let e : h.0 ≡ move = (let a = h.1 in cc) in subst (λ m. Moved Minus u m v) e h.2) f

  -- both turns of a move
  pub adds-both : (IsSought : List ℕ → Type 0)
      (before middle after last old half more all : List (List ℕ)) →
      FindsMore IsSought before middle old half →
      AddsInTurn moves u (turns_of i) before old half →
      FindsMore (Moved Plus u move) middle after half more →
      FindsMore (Moved Minus u move) after last more all →
      AddsInTurn moves u (turns_of (i + 1)) before old all
  adds-both IsSought before middle after last old half more all f a g h =
      let first =
      adds-more moves u (pos (suc i)) (turns_of i) (omega arith) IsSought before middle after old
      half more f a (plus-found middle after half more g)
      (λ v w j k. moves_by-one moves (pos (suc i)) u v w j k) in
      let both =
      finds-then IsSought (Moved Plus u move) before middle after old half more f g in
      let e : turns_of i + 1 + 1 ≡ turns_of (i + 1) = omega arith in
      subst (λ n. AddsInTurn moves u n before old all) e
      (adds-more moves u (negsuc i) (turns_of i + 1) (omega arith)
      (λ v. IsSought v ⊎ Moved Plus u move v) before after last old more all both first
      (minus-found after last more all h)
      (λ v w j k. moves_by-one moves (negsuc i) u v w j k))
