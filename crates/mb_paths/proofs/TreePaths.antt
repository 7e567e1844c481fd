-- The paths of a search tree are least paths, and its parents lead to them.
use Rattle.std.proofs.Common.{List, Some, [], ap, append-nil, append_assoc, arith, inl, inr, refl, slice_get, subst, suc, sym, zero, ℕ, ℤ, ◌++◌, ◌<◌, ◌∙◌, ◌∷◌, ◌≡◌, ◌≤◌, ◌⊎◌}
use Rattle.mb_certificate.specs.Valid.{MovesBy, Walks}
use Rattle.mb_paths.proofs.TreeSteps.{walks-push}
use Rattle.mb_paths.specs.loops.Tree.{AreBorn, GoesOn, GoesOnBy, HasParent, IsKnown, IsTree, Node, tables_in}
use Rattle.mb_rings.proofs.DistinctTables.{distinct-head, distinct-tail}
use Rattle.mb_rings.proofs.PathOrder.{before-more, before-never_itself, before-one_way, before-trans, before-turn, before-upto, least-one, turn-one, upto-before, upto-push, upto-trans}
use Rattle.mb_rings.specs.ShortestPath.{IsLeastPath, turn}
use Rattle.mb_rings.specs.loops.Found.{AreDistinct}
use Rattle.mb_rings.specs.loops.InTurn.{EachLater}
use Rattle.mb_rings.specs.loops.Before.{IsBefore}
use Rattle.mb_tables.proofs.ListLaws.{In-cases, In-map, place-in}
use Rattle.mb_tables.specs.Counts.{AreCounts}
use Rattle.mb_tables.specs.Lists.{In}

-- the only node of a list
one-is : (x y : Node) → In y (x ∷ []) → y ≡ x
unfolding In
one-is x y (inl e) = e
one-is x y (inr i) = absurd i

-- the tree of one table
pub tree-one : (moves : List (List ℤ)) (start : List ℕ) → IsTree moves (start ∷ []) (0 ∷ []) 0
unfolding EachLater In Walks
tree-one moves start =
    let x : Node = record { path = []; table = start } in
    record {
      start = start;
      root = refl;
      done = [];
      todo = x ∷ [];
      listed = refl;
      count = refl;
      begins = inl refl;
      walks = λ y i. subst (λ (z : Node). Walks moves z.path start z.table)
          (sym (one-is x y i)) refl;
      in_order = ((λ y i. absurd i), tt);
      covered = λ y i. absurd i;
      ahead = λ y z i j step.
          subst (λ (w : Node). IsBefore z.path (w.path ++ step ∷ [])) (sym (one-is x y i))
          (subst (λ (w : Node). IsBefore w.path (step ∷ [])) (sym (one-is x z j))
          (before-more [] step));
      each = refl;
      born = by;
    }
  where
    by : (b : ℕ) (y : Node) → slice_get ((record { path = []; table = start }) ∷ []) b ≡ Some y →
        (b ≡ 0) ⊎ HasParent moves ((record { path = []; table = start }) ∷ []) (0 ∷ []) b y
    by zero y e = inl refl
    by (suc b) y e = cc

-- of nodes with different tables, two with one table are one
node-one : (nodes : List Node) → AreDistinct (tables_in nodes) → (y z : Node) → In y nodes →
    In z nodes → y.table ≡ z.table → y ≡ z
unfolding In
node-one [] d y z i j e = absurd i
node-one (x ∷ nodes) d y z (inl f) (inl g) e = f ∙ sym g
node-one (x ∷ nodes) d y z (inl f) (inr j) e =
    absurd (distinct-head x.table (tables_in nodes) d
    (subst (λ t. In t (tables_in nodes)) (sym e ∙ ap (λ (w : Node). w.table) f)
    (In-map (λ (w : Node). w.table) z nodes j)))
node-one (x ∷ nodes) d y z (inr i) (inl g) e =
    absurd (distinct-head x.table (tables_in nodes) d
    (subst (λ t. In t (tables_in nodes)) (e ∙ ap (λ (w : Node). w.table) g)
    (In-map (λ (w : Node). w.table) y nodes i)))
node-one (x ∷ nodes) d y z (inr i) (inr j) e =
    node-one nodes (distinct-tail x.table (tables_in nodes) d) y z i j e

-- the node of the table at a place
node-at : (nodes : List Node) (b : ℕ) (v : List ℕ) → slice_get (tables_in nodes) b ≡ Some v →
    (y : Node) × (slice_get nodes b ≡ Some y) × (y.table ≡ v)
node-at [] b v e = cc
node-at (y ∷ nodes) zero v e = (y, refl, cc)
node-at (y ∷ nodes) (suc b) v e = node-at nodes b v e

-- the table of the node at a place
table-at : (nodes : List Node) (b : ℕ) (y : Node) → slice_get nodes b ≡ Some y →
    slice_get (tables_in nodes) b ≡ Some y.table
table-at [] b y e = cc
table-at (x ∷ nodes) zero y e = let f : x ≡ y = cc in ap (λ (z : Node). Some z.table) f
table-at (x ∷ nodes) (suc b) y e = table-at nodes b y e

module _ (moves : List (List ℤ)) (tables : List (List ℕ)) (parents : List ℕ) (n : ℕ)
    (t : IsTree moves tables parents n) (IsIn : List ℕ → Type 0) (begins : IsIn t.start)
    (closed : (u v : List ℕ) (step : ℤ) → IsIn u → MovesBy moves step u v → IsIn v)
    (counts : (v : List ℕ) → IsIn v → AreCounts v) (distinct : AreDistinct tables) where
  -- all nodes
  abbrev nodes : List Node
  nodes = t.done ++ t.todo

  -- a walk is known to the tree, or all its paths come before it
  abbrev Claim : List ℤ → List ℕ → Type 0
  Claim path u = IsKnown nodes path u ⊎ ((y : Node) → In y nodes → IsBefore y.path path)

  -- so with one step more
  claim-step : (path : List ℤ) (u v : List ℕ) (step : ℤ) → IsIn v → Claim path u →
      MovesBy moves step u v → Claim (path ++ step ∷ []) v
  claim-step path u v step h (inl k) made =
      let push = upto-push (k.node).path path step k.soon in
      elim (In-cases k.node t.done t.todo k.there) [
        | inl j ↦
            let c =
            t.covered k.node j step v (subst (λ w. MovesBy moves step w v) (sym k.is) made)
            (counts v h) in
            inl (record {
              node = c.node;
              there = c.there;
              is = c.is;
              soon = upto-trans (c.node).path ((k.node).path ++ step ∷ []) (path ++ step ∷ [])
                  c.soon push;
            })
        | inr j ↦ inr (λ y i.
            before-upto y.path ((k.node).path ++ step ∷ []) (path ++ step ∷ [])
            (t.ahead k.node y j i step) push)
      ]
  claim-step path u v step h (inr all) made =
      inr (λ y i. before-trans y.path path (path ++ step ∷ []) (all y i) (before-more path step))

  -- and with some more
  claim-walk : (path : List ℤ) (u : List ℕ) (steps : List ℤ) (v : List ℕ) → IsIn u →
      Claim path u → Walks moves steps u v → Claim (path ++ steps) v
  unfolding Walks
  claim-walk path u [] v h c e =
      subst (λ p. Claim p v) (sym (append-nil path)) (subst (Claim path) e c)
  claim-walk path u (step ∷ steps) v h c w =
      let there = closed u w.0 step h w.1 in
      subst (λ p. Claim p v) (append_assoc path (step ∷ []) steps)
      (claim-walk (path ++ step ∷ []) w.0 steps v there (claim-step path u w.0 step there c w.1)
      w.2)

  -- each path is the least one
  pub node-least : (y : Node) → In y nodes → IsLeastPath moves t.start y.path y.table
  node-least y i = record {
    leads = t.walks y i;
    least = λ other h e.
        elim (claim-walk [] t.start other y.table begins root h) [
          | inl k ↦
              let same =
              node-one nodes (subst AreDistinct t.listed distinct) k.node y k.there i k.is in
              before-never_itself y.path
              (subst (λ (z : Node). IsBefore z.path y.path) same
              (upto-before (k.node).path other y.path k.soon e))
          | inr all ↦ before-one_way y.path other (all y i) e
        ];
  }
    where
      root : Claim [] t.start
      root =
          inl (record {
            node = record { path = []; table = t.start };
            there = t.begins;
            is = refl;
            soon = inl refl;
          })

  -- the parents lead to them
  pub tree-born : AreBorn moves t.start tables parents
  tree-born = record {
    root = t.root;
    each = λ b v e.
        let y = node-at nodes b v (ap (λ list. slice_get list b) (sym t.listed) ∙ e) in
        elim (t.born b y.0 y.1) [
          | inl f ↦ inl f
          | inr h ↦
              let least = node-least y.0 (place-in nodes b y.0 y.1) in
              let parent = node-least h.node (place-in nodes h.place h.node h.is) in
              inr (record {
                place = h.place;
                parent = h.parent;
                before = h.before;
                table = (h.node).table;
                is = ap (λ list. slice_get list h.place) t.listed
                    ∙ table-at nodes h.place h.node h.is;
                reached = ((h.node).path, parent);
                goes_on = (
                  h.step,
                  subst (λ w. MovesBy moves h.step (h.node).table w) y.2 h.made,
                  (λ path p.
                      let same =
                      least-one moves t.start (h.node).table (h.node).path path parent p in
                      subst (λ q. IsLeastPath moves t.start (q ++ h.step ∷ []) v) same
                      (subst (λ q. IsLeastPath moves t.start q v) h.path
                      (subst (IsLeastPath moves t.start (y.0).path) y.2 least))),
                );
              })
        ];
  }

-- where a least path goes on by some step, it does by the first that leads there
pub first-goes_on : (moves : List (List ℤ)) (start u v : List ℕ) → GoesOn moves start u v →
    ((path : List ℤ) × IsLeastPath moves start path u) → (step : ℤ) → MovesBy moves step u v →
    ((other : ℤ) → MovesBy moves other u v → turn step ≤ turn other) →
    GoesOnBy moves start u step v
first-goes_on moves start u v g r step made first =
    let low = first g.0 g.1 in by (cases (turn step) (turn g.0) low)
  where
    cases : (a b : ℕ) → a ≤ b → (a ≡ b) ⊎ (a < b)
    cases a b h = grind arith

    by : (turn step ≡ turn g.0) ⊎ (turn step < turn g.0) → GoesOnBy moves start u step v
    by (inl e) = subst (λ s. GoesOnBy moves start u s v) (sym (turn-one step g.0 e)) g.2
    by (inr l) =
        absurd ((g.2 r.0 r.1).least (r.0 ++ step ∷ [])
        (walks-push moves r.0 step start u v (r.1).leads made) (before-turn r.0 step g.0 l))
