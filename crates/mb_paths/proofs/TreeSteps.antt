-- The search tree when one more of its tables is expanded.
use Rattle.std.proofs.Common.{List, Some, [], ap, append_assoc, arith, inl, inr, length, length-append, map, refl, replicate, slice_get, subst, suc, sym, zero, ℕ, ℤ, ◌++◌, ◌+◌, ◌-◌, ◌<◌, ◌∙◌, ◌∷◌, ◌≡◌, ◌≤◌, ◌⊎◌}
use Rattle.std.proofs.lemmas.List.{length-map, length-replicate, map-append}
use Rattle.mb_certificate.specs.Valid.{MovesBy, Walks}
use Rattle.mb_paths.specs.loops.Tree.{HasParent, IsKnown, IsTree, Node, tables_in}
use Rattle.mb_rings.proofs.PathOrder.{before-more, before-push, before-shorter, before-trans, before-turn, length-step, upto-turn}
use Rattle.mb_rings.proofs.TurnSteps.{later-append}
use Rattle.mb_rings.specs.ShortestPath.{turn}
use Rattle.mb_rings.specs.loops.InTurn.{AddsInTurn, EachLater, IsSooner, Mark}
use Rattle.mb_rings.specs.loops.Before.{IsBefore}
use Rattle.mb_tables.proofs.ListLaws.{In-cases, In-left, In-map, In-map_range, In-right, get-front, get-more, place-in, place-within}
use Rattle.mb_tables.specs.Counts.{AreCounts}
use Rattle.mb_tables.specs.Lists.{In}

-- a walk with one step more
pub walks-push : (moves : List (List ℤ)) (steps : List ℤ) (step : ℤ) (u v w : List ℕ) →
    Walks moves steps u v → MovesBy moves step v w → Walks moves (steps ++ step ∷ []) u w
unfolding Walks
walks-push moves [] step u v w h k =
    (w, subst (λ x. MovesBy moves step x w) (sym h) k, refl)
walks-push moves (first ∷ steps) step u v w h k =
    (h.0, h.1, walks-push moves steps step h.0 v w h.2 k)

-- an element past the first of two lists
get-beyond : {X : Type 0} (xs ys : List X) (k : ℕ) → length xs ≤ k →
    slice_get (xs ++ ys) k ≡ slice_get ys (k - length xs)
get-beyond [] ys k l = let e : k ≡ k - 0 = omega arith in ap (slice_get ys) e
get-beyond (x ∷ xs) ys zero l = absurd (omega arith)
get-beyond (x ∷ xs) ys (suc k) l =
    let e : k - length xs ≡ suc k - suc (length xs) = omega arith in
    get-beyond xs ys k (omega arith) ∙ ap (slice_get ys) e

-- an element of a list of one number
get-same : (n : ℕ) (k : ℕ) (x : ℕ) → k < n → slice_get (replicate n x) k ≡ Some x
get-same zero k x l = absurd (omega arith)
get-same (suc n) zero x l = refl
get-same (suc n) (suc k) x l = get-same n k x (omega arith)

-- the node that is to be expanded next
next-node : (done todo : List Node) (u : List ℕ) →
    slice_get (tables_in (done ++ todo)) (length done) ≡ Some u →
    (x : Node) × (rest : List Node) × (todo ≡ x ∷ rest) × (x.table ≡ u)
next-node [] [] u e = cc
next-node [] (x ∷ rest) u e = (x, rest, refl, cc)
next-node (d ∷ done) todo u e = next-node done todo u e

-- the node of a mark
abbrev child : Node → Mark → Node
child x m = record { path = x.path ++ m.step ∷ []; table = m.table }

-- the tables of children
tables-born : (x : Node) (marks : List Mark) →
    tables_in (map (child x) marks) ≡ map (λ (m : Mark). m.table) marks
tables-born x [] = refl
tables-born x (m ∷ marks) = ap (λ list. m.table ∷ list) (tables-born x marks)

-- children stand in the order of their paths
born-in_order : (x : Node) (marks : List Mark) → EachLater IsSooner marks →
    EachLater (λ (y z : Node). IsBefore y.path z.path) (map (child x) marks)
unfolding EachLater
born-in_order x [] h = tt
born-in_order x (m ∷ marks) h = (
  (λ y i. let r = In-map_range (child x) y marks i in
      subst (λ (z : Node). IsBefore (x.path ++ m.step ∷ []) z.path) (sym r.2)
      (before-turn x.path m.step (r.0).step (h.0 r.0 r.1))),
  born-in_order x marks h.1,
)

module _ (moves : List (List ℤ)) (tables : List (List ℕ)) (parents : List ℕ) (n : ℕ)
    (t : IsTree moves tables parents n) (u : List ℕ) (there : slice_get tables n ≡ Some u)
    (visited new : List (List ℕ)) (known : (v : List ℕ) → In v visited → In v tables) (end : ℕ)
    (ended : (step : ℤ) (v : List ℕ) → MovesBy moves step u v → turn step < end)
    (a : AddsInTurn moves u end visited tables new) (count : ℕ)
    (many : length new ≡ length parents + count) where
  -- all nodes so far
  abbrev nodes : List Node
  nodes = t.done ++ t.todo

  -- the one to be expanded, and those after it
  next : (x : Node) × (rest : List Node) × (t.todo ≡ x ∷ rest) × (x.table ≡ u)
  next =
      next-node t.done t.todo u
      (ap (slice_get (tables_in nodes)) (sym t.count)
      ∙ ap (λ list. slice_get list n) (sym t.listed) ∙ there)

  abbrev x : Node
  x = next.0

  abbrev rest : List Node
  rest = next.1

  -- its children
  abbrev more : List Node
  more = map (child x) a.marks

  -- all nodes then
  abbrev all : List Node
  all = (t.done ++ x ∷ []) ++ (rest ++ more)

  -- they are the nodes so far and the children
  all-are : all ≡ nodes ++ more
  all-are =
      append_assoc t.done (x ∷ []) (rest ++ more) ∙ sym (append_assoc t.done (x ∷ rest) more)
      ∙ ap (λ list. (t.done ++ list) ++ more) (sym next.2)

  In-todo : (y : Node) → In y (x ∷ rest) → In y t.todo
  In-todo y i = subst (In y) (sym next.2) i

  In-nodes : (y : Node) → In y (x ∷ rest) → In y nodes
  In-nodes y i = In-right y t.done t.todo (In-todo y i)

  In-all : (y : Node) → In y nodes → In y all
  In-all y i = subst (In y) (sym all-are) (In-left y nodes more i)

  In-more : (y : Node) → In y more → In y all
  In-more y i = subst (In y) (sym all-are) (In-right y nodes more i)

  all-cases : (y : Node) → In y all → In y nodes ⊎ In y more
  all-cases y i = In-cases y nodes more (subst (In y) all-are i)

  -- what is known stays known
  known-more : (path : List ℤ) (v : List ℕ) → IsKnown nodes path v → IsKnown all path v
  known-more path v k = record {
    node = k.node;
    there = In-all k.node k.there;
    is = k.is;
    soon = k.soon;
  }

  -- the node to be expanded is one
  here : In x (x ∷ rest)
  unfolding In
  here = inl refl

  -- what a step of it makes is known then
  expanded : (step : ℤ) (v : List ℕ) → MovesBy moves step x.table v → AreCounts v →
      IsKnown all (x.path ++ step ∷ []) v
  expanded step v h fits =
      let made = subst (λ w. MovesBy moves step w v) next.3 h in
      elim (a.all step v (ended step v made) made fits) [
        | inl i ↦
            let r =
            In-map_range (λ (y : Node). y.table) v nodes (subst (In v) t.listed (known v i)) in
            record {
              node = r.0;
              there = In-all r.0 r.1;
              is = sym r.2;
              soon = inr (t.ahead x r.0 (In-todo x here) r.1 step);
            }
        | inr m ↦ record {
          node = child x m.mark;
          there = In-more (child x m.mark) (In-map (child x) m.mark a.marks m.there);
          is = m.is;
          soon = upto-turn x.path (m.mark).step step m.soon;
        }
      ]

  -- the nodes to be expanded are ahead of the others
  ahead-more : (y z : Node) → In y (rest ++ more) → In z all → (step : ℤ) →
      IsBefore z.path (y.path ++ step ∷ [])
  unfolding In EachLater
  ahead-more y z i j step =
      elim (In-cases y rest more i) [
        | inl k ↦ elim (all-cases z j) [
          | inl l ↦ t.ahead y z (In-todo y (inr k)) l step
          | inr l ↦
              let r = In-map_range (child x) z a.marks l in
              subst (λ (w : Node). IsBefore w.path (y.path ++ step ∷ [])) (sym r.2)
              (before-push x.path y.path (r.0).step step
              ((subst (EachLater (λ (v w : Node). IsBefore v.path w.path)) next.2
              t.in_order).0 y k))
        ]
        | inr k ↦
            let q = In-map_range (child x) y a.marks k in
            subst (λ (w : Node). IsBefore z.path (w.path ++ step ∷ [])) (sym q.2)
            (born-ahead z q.0 j step)
      ]
    where
      born-ahead : (z : Node) (m : Mark) → In z all → (step : ℤ) →
          IsBefore z.path ((x.path ++ m.step ∷ []) ++ step ∷ [])
      born-ahead z m j step =
          elim (all-cases z j) [
            | inl l ↦
                before-trans z.path (x.path ++ m.step ∷ []) ((x.path ++ m.step ∷ []) ++ step ∷ [])
                (t.ahead x z (In-todo x (inl refl)) l m.step)
                (before-more (x.path ++ m.step ∷ []) step)
            | inr l ↦
                let r = In-map_range (child x) z a.marks l in
                let e = ap (λ (w : Node). length w.path) r.2 in
                let f = length-step x.path (r.0).step in
                let g = length-step x.path m.step in
                let h = length-step (x.path ++ m.step ∷ []) step in
                before-shorter z.path ((x.path ++ m.step ∷ []) ++ step ∷ []) (omega arith)
          ]

  -- a parent stays one
  parent-more : (b : ℕ) (y : Node) → HasParent moves nodes parents b y →
      HasParent moves all (parents ++ replicate count n) b y
  parent-more b y h = record {
    place = h.place;
    parent = get-more parents (replicate count n) b h.place h.parent;
    before = h.before;
    node = h.node;
    is = ap (λ list. slice_get list h.place) all-are ∙ get-more nodes more h.place h.node h.is;
    step = h.step;
    path = h.path;
    made = h.made;
  }

  -- the node stands at its place
  x-there : slice_get nodes n ≡ Some x
  x-there =
      ap (slice_get nodes) t.count ∙ ap (λ list. slice_get (t.done ++ list) (length t.done)) next.2
      ∙ get-first t.done x rest
    where
      get-first : (xs : List Node) (y : Node) (ys : List Node) →
          slice_get (xs ++ y ∷ ys) (length xs) ≡ Some y
      get-first [] y ys = refl
      get-first (z ∷ xs) y ys = get-first xs y ys

  -- a child has it as its parent
  child-born : (b : ℕ) (y : Node) → length nodes ≤ b → slice_get all b ≡ Some y →
      HasParent moves all (parents ++ replicate count n) b y
  child-born b y l e =
      let f : slice_get more (b - length nodes) ≡ Some y =
      sym (get-beyond nodes more b l) ∙ ap (λ list. slice_get list b) (sym all-are) ∙ e in
      let r = In-map_range (child x) y a.marks (place-in more (b - length nodes) y f) in
      let few = place-within more (b - length nodes) y f in
      let long = length-map a.marks (child x) in
      let lower = place-within nodes n x x-there in
      let each = t.each in
      let size =
      ap length a.listed ∙ length-append tables (map (λ (m : Mark). m.table) a.marks) in
      let marks = length-map a.marks (λ (m : Mark). m.table) in
      let old = ap length t.listed ∙ length-map nodes (λ (y : Node). y.table) in
      record {
        place = n;
        parent = get-beyond parents (replicate count n) b (omega arith)
            ∙ get-same count (b - length parents) n (omega arith);
        before = omega arith;
        node = x;
        is = ap (λ list. slice_get list n) all-are ∙ get-more nodes more n x x-there;
        step = (r.0).step;
        path = ap (λ (w : Node). w.path) r.2;
        made = subst (λ (w : Node). MovesBy moves (r.0).step x.table w.table) (sym r.2)
            (subst (λ v. MovesBy moves (r.0).step v (r.0).table) (sym next.3) (a.made r.0 r.1));
      }

  -- the only node of a list
  one-is : (y : Node) → In y (x ∷ []) → y ≡ x
  unfolding In
  one-is y (inl e) = e
  one-is y (inr i) = absurd i

  -- what a step of the expanded node makes is known
  one-covered : (y : Node) → In y (x ∷ []) → (step : ℤ) (v : List ℕ) →
      MovesBy moves step y.table v → AreCounts v → IsKnown all (y.path ++ step ∷ []) v
  one-covered y i step v h fits =
      let e = one-is y i in
      subst (λ (z : Node). IsKnown all (z.path ++ step ∷ []) v) (sym e)
      (expanded step v (subst (λ (z : Node). MovesBy moves step z.table v) e h) fits)

  -- the nodes to be expanded stand in order
  in_order-more : EachLater (λ (y z : Node). IsBefore y.path z.path) (rest ++ more)
  unfolding EachLater In
  in_order-more =
      later-append (λ (y z : Node). IsBefore y.path z.path) rest more
      (subst (EachLater (λ (y z : Node). IsBefore y.path z.path)) next.2 t.in_order).1
      (born-in_order x a.marks a.sooner)
      (λ y z i j. let r = In-map_range (child x) z a.marks j in
      subst (λ (w : Node). IsBefore y.path w.path) (sym r.2)
      (t.ahead x y (In-todo x here) (In-nodes y (inr i)) (r.0).step))

  -- a place is below another, or not
  low-or_high : (i j : ℕ) → (i < j) ⊎ (j ≤ i)
  low-or_high i j = grind arith

  -- each node has a parent
  born-more : (b : ℕ) (y : Node) → slice_get all b ≡ Some y →
      (b < length nodes) ⊎ (length nodes ≤ b) →
      (b ≡ 0) ⊎ HasParent moves all (parents ++ replicate count n) b y
  born-more b y e (inl l) =
      elim (t.born b y (sym (get-front nodes more b l)
      ∙ ap (λ list. slice_get list b) (sym all-are) ∙ e)) [
        | inl f ↦ inl f
        | inr h ↦ inr (parent-more b y h)
      ]
  born-more b y e (inr l) = inr (child-born b y l e)

  -- one more is expanded
  pub tree-more : IsTree moves new (parents ++ replicate count n) (n + 1)
  tree-more = record {
    start = t.start;
    root =
        ap (λ list. slice_get list 0) a.listed
        ∙ get-more tables (map (λ (m : Mark). m.table) a.marks) 0 t.start t.root;
    done = t.done ++ x ∷ [];
    todo = rest ++ more;
    listed =
        a.listed ∙ ap (λ list. list ++ map (λ (m : Mark). m.table) a.marks) t.listed
        ∙ ap (λ list. tables_in nodes ++ list) (sym (tables-born x a.marks))
        ∙ sym (map-append (λ (y : Node). y.table) nodes more) ∙ ap tables_in (sym all-are);
    count = let e = t.count in let f = length-append t.done (x ∷ []) in omega arith;
    begins = In-all (record { path = []; table = t.start }) t.begins;
    walks = λ y i. elim (all-cases y i) [
      | inl j ↦ t.walks y j
      | inr j ↦
          let r = In-map_range (child x) y a.marks j in
          subst (λ (z : Node). Walks moves z.path t.start z.table) (sym r.2)
          (walks-push moves x.path (r.0).step t.start u (r.0).table
          (subst (Walks moves x.path t.start) next.3 (t.walks x (In-nodes x here)))
          (a.made r.0 r.1))
    ];
    in_order = in_order-more;
    covered = λ y i. elim (In-cases y t.done (x ∷ []) i) [
      | inl j ↦ (λ step v h fits. known-more (y.path ++ step ∷ []) v (t.covered y j step v h fits))
      | inr j ↦ (λ step v h fits. one-covered y j step v h fits)
    ];
    ahead = ahead-more;
    each =
        let e = t.each in
        let f = length-append parents (replicate count n) in
        let g = length-replicate count n in
        let h = ap length all-are ∙ length-append nodes more in
        let long = length-map a.marks (child x) in
        let size =
        ap length a.listed ∙ length-append tables (map (λ (m : Mark). m.table) a.marks) in
        let marks = length-map a.marks (λ (m : Mark). m.table) in
        let old = ap length t.listed ∙ length-map nodes (λ (y : Node). y.table) in
        omega arith;
    born = λ b y e. born-more b y e (low-or_high b (length nodes));
  }

-- a tree has a parent for each table
pub parents-each : (moves : List (List ℤ)) (tables : List (List ℕ)) (parents : List ℕ) (n : ℕ) →
    IsTree moves tables parents n → length parents ≡ length tables
parents-each moves tables parents n t =
    t.each ∙ sym (length-map (t.done ++ t.todo) (λ (y : Node). y.table))
    ∙ ap length (sym t.listed)

-- what is added in turn makes the list no shorter
pub adds-longer : (moves : List (List ℤ)) (u : List ℕ) (end : ℕ)
    (before old new : List (List ℕ)) → AddsInTurn moves u end before old new →
    length old ≤ length new
adds-longer moves u end before old new a =
    let e = ap length a.listed in
    let f = length-append old (map (λ (m : Mark). m.table) a.marks) in omega arith
