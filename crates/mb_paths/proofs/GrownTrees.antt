-- The search between two tables on its way, and what its ends say.
use Rattle.std.proofs.Common.{Err, IsErrAnd, List, Ok, Result, Some, [], ap, arith, drop, inl, inr, length, min, slice_get, subst, suc, sym, ℕ, ℤ, ◌++◌, ◌+◌, ◌-◌, ◌<◌, ◌∙◌, ◌∷◌, ◌≡◌, ◌≤◌, ◌⊎◌, length-append, length-drop, refl}
use Rattle.std.proofs.lemmas.List.{drop_all}
use Rattle.std.proofs.lemmas.List.Sorted.{IsPermutation-append_left, IsPermutation-sym, IsPermutation-trans, length_permutation}
use Rattle.std.specs.List.Sorted.{IsPermutation}
use Rattle.mb_certificate.proofs.Walking.{chain-walk, moved-apart}
use Rattle.mb_certificate.specs.Valid.{Walks}
use Rattle.mb_matrix.specs.Matrix.{Design, fiber_of}
use Rattle.mb_paths.proofs.Explored.{IsExplored, explored-all, explored-fiber, explored-few, explored-over, explored-reached, explored-start, explored-step}
use Rattle.mb_paths.proofs.TreePaths.{tree-born}
use Rattle.mb_paths.specs.Between.{Answers, IsApart, IsWithin}
use Rattle.mb_paths.specs.declared.connection.Between.{Between}
use Rattle.mb_paths.specs.loops.Tree.{AreBorn, IsTree}
use Rattle.mb_rings.proofs.DistinctTables.{In-permutation, distinct-cons, distinct-none, distinct-permutation, permutation-In}
use Rattle.mb_rings.proofs.PathOrder.{before-shorter}
use Rattle.mb_rings.proofs.RingDistances.{ring-steps, some-ring, tables-more}
use Rattle.mb_rings.proofs.Walking.{IsWalkable}
use Rattle.mb_rings.specs.Ring.{Ring, rings_to, tables_of}
use Rattle.mb_rings.specs.ShortestPath.{IsLeastPath}
use Rattle.mb_rings.specs.declared.fault.WalkFault.{WalkFault}
use Rattle.mb_rings.specs.declared.fault.WalkFault.TheVariants.{OutOfMemory, TooLarge}
use Rattle.mb_rings.specs.loops.Found.{FindsMore, IsSearchFault}
use Rattle.mb_tables.proofs.ListLaws.{get-more, place-in}
use Rattle.mb_tables.specs.Lists.{In}
use Rattle.mb_tables.specs.Step.{IsNear}

-- the search on its way: a tree, whose tables are those of some rings from 0 on, and from a place
-- on those of the last of these
pub record IsGrown
    (fiber : Ring) (moves : List (List ℤ)) (start : List ℕ) (limit : ℕ) (tables : List (List ℕ))
    (parents : List ℕ) (visited : List (List ℕ)) (first : ℕ) : Type 0 where
  pub level : ℕ
  pub explored : IsExplored fiber moves start level (drop first tables) visited
  pub known : IsPermutation tables visited
  pub tree : IsTree moves tables parents first
  pub root : slice_get tables 0 ≡ Some start
  pub room : length visited ≤ limit
  pub within : first ≤ length tables

-- what stands past a front
drop-front : {X : Type 0} (xs ys : List X) → drop (length xs) (xs ++ ys) ≡ ys
drop-front [] ys = refl
drop-front (x ∷ xs) ys = drop-front xs ys

module _ (fiber : Ring) (moves : List (List ℤ)) (start : List ℕ) (limit : ℕ) where
  -- before the first step
  pub grown-start : (tables : List (List ℕ)) (parents : List ℕ) (visited : List (List ℕ)) →
      tables ≡ start ∷ [] → IsTree moves tables parents 0 → IsPermutation (start ∷ []) visited →
      1 ≤ limit → IsGrown fiber moves start limit tables parents visited 0
  unfolding In
  grown-start tables parents visited e tree p some = record {
    level = 0;
    explored =
        explored-start fiber moves start tables visited e
        (λ v i. permutation-In (start ∷ []) visited v p i)
        (λ v i. In-permutation (start ∷ []) visited v p i)
        (distinct-permutation (start ∷ []) visited p
        (distinct-cons start [] (λ i. i) distinct-none));
    known = subst (λ list. IsPermutation list visited) (sym e) p;
    tree = tree;
    root = ap (λ list. slice_get list 0) e;
    room = let one = length_permutation (start ∷ []) visited p in omega arith;
    within = omega arith;
  }

  module _ (tables : List (List ℕ)) (parents : List ℕ) (visited : List (List ℕ)) (first : ℕ)
      (g : IsGrown fiber moves start limit tables parents visited first)
      (h : IsWalkable fiber moves start) where
    -- the tables are of the fiber
    pub grown-fiber : (u : List ℕ) → In u tables → In u fiber
    grown-fiber u i =
        explored-fiber fiber moves start g.level (drop first tables) visited g.explored h.begins u
        (In-permutation tables visited u g.known i)

    -- after the last ring is expanded
    pub grown-step : (new : List (List ℕ)) (more : List ℕ) (after : List (List ℕ)) →
        FindsMore (IsNear moves (drop first tables)) visited after tables new →
        IsTree moves new more (length tables) → length after ≤ limit →
        IsGrown fiber moves start limit new more after (length tables)
    grown-step new more after f tree room = record {
      level = suc g.level;
      explored =
          subst (λ ring. IsExplored fiber moves start (suc g.level) ring after)
          (sym (ap (drop (length tables)) f.listed ∙ drop-front tables f.found))
          (explored-step fiber moves start g.level (drop first tables) visited g.explored h after
          f.found f.finds);
      known =
          subst (λ list. IsPermutation list after) (sym f.listed)
          (IsPermutation-trans (tables ++ f.found) (visited ++ f.found) after
          (IsPermutation-append_left f.found tables visited g.known) f.finds.visited);
      tree = tree;
      root =
          ap (λ list. slice_get list 0) f.listed ∙ get-more tables f.found 0 start g.root;
      room = room;
      within =
          let e = ap length f.listed in
          let l = length-append tables f.found in omega arith;
    }

    -- it is nearer to its end
    pub grown-smaller : (new after : List (List ℕ)) →
        FindsMore (IsNear moves (drop first tables)) visited after tables new →
        first < length tables → length after ≤ limit →
        (limit - length after) + min 1 (length (drop (length tables) new))
        < (limit - length visited) + min 1 (length (drop first tables))
    grown-smaller new after f some room =
        let e = length_permutation (visited ++ f.found) after f.finds.visited in
        let a = length-append visited f.found in
        let b = ap length (ap (drop (length tables)) f.listed ∙ drop-front tables f.found) in
        let c = length-drop first tables in omega arith

    -- each table is born
    pub grown-born : AreBorn moves start tables parents
    grown-born =
        let same : g.tree.start ≡ start = (let a = g.tree.root in let b = g.root in cc) in
        subst (λ u. AreBorn moves u tables parents) same
        (tree-born moves tables parents first g.tree (λ u. In u fiber)
        (subst (λ u. In u fiber) (sym same) h.begins)
        (λ u v step i made. h.closed u v i (moved-apart moves step u v made)) h.counts
        (distinct-permutation visited tables (IsPermutation-sym tables visited g.known)
        g.explored.once))

    -- the start is met
    start-met : In start visited
    start-met =
        In-permutation tables visited start g.known (place-in tables 0 start g.root)

    -- a ring that has no place is empty
    ring-empty : length tables ≤ first → drop first tables ≡ []
    ring-empty l = drop_all first tables l

  -- a table that is met is as near as its least path is long
  near-level : (level : ℕ) (v : List ℕ) (steps : List ℤ) → IsLeastPath moves start steps v →
      In v (tables_of (rings_to fiber moves start level)) → length steps ≤ level
  near-level level v steps p i =
      let r = some-ring fiber moves start level v i in
      let chain = ring-steps fiber moves start r.0 v r.2 in
      let walk = chain-walk moves start chain.0 v chain.2 in
      let long = walk.1 in
      let same = chain.1 in
      let low = r.1 in
      by (cases (length steps) level) walk.0 (omega arith) walk.2
    where
      cases : (a b : ℕ) → (a ≤ b) ⊎ (b < a)
      cases a b = grind arith

      by : (length steps ≤ level) ⊎ (level < length steps) → (other : List ℤ) →
          length other ≤ level → Walks moves other start v → length steps ≤ level
      by (inl l) other m w = l
      by (inr l) other m w =
          absurd (p.least other w (before-shorter other steps (omega arith)))

module _ (matrix : Design) (moves : List (List ℤ)) (start v : List ℕ) (limit : ℕ)
    (tables : List (List ℕ)) (parents : List ℕ) (visited : List (List ℕ)) (first : ℕ)
    (g : IsGrown (fiber_of matrix start) moves start limit tables parents visited first)
    (h : IsWalkable (fiber_of matrix start) moves start) where
  -- where the limit is passed before the table is met
  pub grown-over : (In v visited → ⊥) → (fault : WalkFault) →
      IsSearchFault (IsNear moves (drop first tables)) limit visited fault →
      Answers limit matrix moves start v (Err fault)
  grown-over missed OutOfMemory x = tt
  grown-over missed (TooLarge seen) x = (
    x.0,
    record {
      radius = g.level;
      within =
          let few =
          explored-few (fiber_of matrix start) moves start g.level (drop first tables) visited
          g.explored h g.level (λ w i. i) in
          let room = g.room in omega arith;
      missed = λ i. missed (g.explored.has v i);
      passed =
          explored-over (fiber_of matrix start) moves start g.level (drop first tables) visited
          g.explored h limit x.1 x.2;
    },
  )

  -- where it is met
  pub grown-joined : (steps : List ℤ) → IsLeastPath moves start steps v → In v visited →
      IsWithin limit matrix moves start v steps
  grown-joined steps p i = record {
    path = p;
    near =
        let there = g.explored.only v i in
        let low = near-level (fiber_of matrix start) moves start limit g.level v steps p there in
        let e : length steps + (g.level - length steps) ≡ g.level = omega arith in
        let few =
        explored-few (fiber_of matrix start) moves start g.level (drop first tables) visited
        g.explored h (length steps)
        (λ w j. subst (λ k. In w (tables_of (rings_to (fiber_of matrix start) moves start k))) e
        (tables-more (fiber_of matrix start) moves start (length steps)
        (g.level - length steps) w j)) in
        let room = g.room in omega arith;
  }

  -- where it isn't met, and the search has come to its end
  pub grown-apart : (length tables ≤ first) ⊎ In v visited → (In v tables → ⊥) →
      IsApart limit matrix moves start v
  grown-apart (inl l) missed =
      let fiber = fiber_of matrix start in
      let empty = ring-empty fiber moves start limit tables parents visited first g h l in
      let met = start-met fiber moves start limit tables parents visited first g h in record {
        within =
            let few =
            explored-reached fiber moves start g.level (drop first tables) visited g.explored h
            empty met in
            let room = g.room in omega arith;
        missed = λ i. missed (permutation-In tables visited v g.known
            (explored-all fiber moves start g.level (drop first tables) visited g.explored h empty
            met v i));
      }
  grown-apart (inr i) missed = absurd (missed (permutation-In tables visited v g.known i))

-- a refusal that is handed on
pub answers-handed_on : (limit : ℕ) (matrix : Design) (moves : List (List ℤ)) (u v : List ℕ)
    (r : Result Between WalkFault) (fault : WalkFault) → IsErrAnd r (λ e. e ≡ fault) →
    Answers limit matrix moves u v (Err fault) → Answers limit matrix moves u v r
answers-handed_on limit matrix moves u v (Ok x) fault h a = absurd h
answers-handed_on limit matrix moves u v (Err e) fault h a =
    subst (λ f. Answers limit matrix moves u v (Err f)) (sym h) a
