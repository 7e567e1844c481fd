-- The walk by keys on its way: the gathered keys are those of the tables of the rings so far.
use Rattle.std.proofs.Common.{All, List, [], ap, append-nil, arith, inl, inr, length, length-append, map, refl, subst, sym, ℕ, ℤ, ◌++◌, ◌+◌, ◌<◌, ◌^◌, ◌∙◌, ◌∷◌, ◌≡◌, ◌≤◌, ◌↔◌, ◌⊎◌, ⊎_elim}
use Rattle.std.proofs.lemmas.List.Sorted.{IsPermutation-refl}
use Rattle.std.proofs.lemmas.List.{length-map}
use Rattle.mb_claims.specs.Lists.{AreDistinctKeys}
use Rattle.mb_keyed.proofs.KeyedTables.{distinct-from_keys}
use Rattle.mb_keyed.specs.loops.Keyed.{FindsKeyed, IsKeyFault, IsOfFiber, fiber_at}
use Rattle.mb_keyed.specs.loops.Worked.{HasKeyedSteps}
use Rattle.mb_matrix.proofs.Suits.{same_key, suits}
use Rattle.mb_matrix.specs.Key.{Suits, digits_of, key_of}
use Rattle.mb_matrix.specs.Matrix.{Design, IsDesign, IsMove, fiber_of, margins_of}
use Rattle.mb_matrix.specs.declared.digit.Digit.{Digit}
use Rattle.mb_rings.proofs.AscendingTables.{distinct-ascends}
use Rattle.mb_rings.proofs.DistinctTables.{distinct-append}
use Rattle.mb_rings.proofs.FiberSteps.{fiber-only, fiber-walkable}
use Rattle.mb_rings.proofs.RingEnds.{joined-reached}
use Rattle.mb_rings.proofs.RingSteps.{rings_to-distinct, rings_to-fiber, rings_to-joined, rings_to-step, tables_of-push}
use Rattle.mb_rings.proofs.Walking.{IsWalkable, IsWalked, ring-fiber, walked-start, walked-step}
use Rattle.mb_rings.specs.Claimed.{AreKeysOf, IsKeyOf}
use Rattle.mb_rings.specs.Ring.{Ring, reached, tables_of}
use Rattle.mb_rings.specs.declared.fault.WalkFault.TheVariants.{OutOfMemory, TooLarge}
use Rattle.mb_rings.specs.declared.fault.WalkFault.{WalkFault}
use Rattle.mb_rings.specs.loops.Found.{AreDistinct, Finds, IsSearchFault}
use Rattle.mb_tables.proofs.ListLaws.{In-cases, In-left, In-map, In-right}
use Rattle.mb_tables.specs.Lists.{In}
use Rattle.mb_tables.specs.Step.{IsNear}

-- all tables of the rings so far
abbrev pub visited_of : List Ring → Ring → List (List ℕ)
visited_of rings ring = tables_of (rings ++ ring ∷ [])

-- how many these are
pub visited-count : (rings : List Ring) (ring : Ring) →
    length (visited_of rings ring) ≡ length (tables_of rings) + length ring
visited-count rings ring =
    ap length (tables_of-push rings ring) ∙ length-append (tables_of rings) ring

-- the walk is on its way, and the gathered keys are those of the tables visited, each once
pub record IsKeyedWalk (fiber : Ring) (moves : List (List ℤ)) (start : List ℕ) (limit : ℕ)
    (digits : List Digit) (rings : List Ring) (ring : Ring) (gathered : List ℕ) : Type 0 where
  pub walked : IsWalked fiber moves start limit rings ring (visited_of rings ring)
  pub once : AreDistinctKeys gathered
  pub keys : (key : ℕ) →
      In key gathered ↔ IsKeyOf digits (λ v. In v (visited_of rings ring)) key

-- tables that have these keys
tables-for : (digits : List Digit) (P : List ℕ → Type 0) (found : List ℕ) →
    ((key : ℕ) → In key found → IsKeyOf digits P key) →
    (tables : List (List ℕ)) × (map (key_of digits) tables ≡ found)
    × ((v : List ℕ) → In v tables → P v)
unfolding In
tables-for digits P [] h = ([], refl, (λ v i. absurd i))
tables-for digits P (key ∷ found) h =
    let first = h key (inl refl) in
    let rest = tables-for digits P found (λ k i. h k (inr i)) in (
      first.0 ∷ rest.0,
      cons-same (sym first.2) rest.1,
      (λ v. ⊎_elim (λ e. subst P (sym e) first.1) (λ i. rest.2 v i)),
    )
  where
    cons-same : {x y : ℕ} {xs ys : List ℕ} → x ≡ y → xs ≡ ys → x ∷ xs ≡ y ∷ ys
    cons-same e f = cc

module _ (matrix : Design) (sound : IsDesign matrix) (start : List ℕ)
    (long : length start ≡ length matrix.columns)
    (small : All (λ margin. margin < 2 ^ 32) (margins_of matrix start)) (moves : List (List ℤ))
    (each : All (IsMove matrix) moves) (digits : List Digit)
    (is : digits ≡ digits_of matrix (margins_of matrix start)) where
  -- what the walk needs to know of the fiber
  walkable : IsWalkable (fiber_of matrix start) moves start
  walkable = fiber-walkable matrix sound start moves each long small

  -- a table of the fiber has its margins
  pub of-fiber : (v : List ℕ) → In v (fiber_of matrix start) →
      IsOfFiber (fiber_at matrix start) v
  of-fiber v i =
      let has = fiber-only matrix sound start v i in
      record { cells = has.0; same = has.1; fits = walkable.counts v i }

  -- and has a key
  fiber-suits : (v : List ℕ) → In v (fiber_of matrix start) → Suits digits v
  fiber-suits v i =
      let has = of-fiber v i in
      subst (λ (d : List Digit). Suits d v)
      (ap (digits_of matrix) has.same ∙ sym is)
      (suits matrix sound v has.cells)

  -- tables of the fiber with one key are one
  one-table : (u v : List ℕ) → In u (fiber_of matrix start) → In v (fiber_of matrix start) →
      key_of digits u ≡ key_of digits v → u ≡ v
  one-table u v i j e =
      let first = of-fiber u i in
      let second = of-fiber v j in
      same_key matrix sound (margins_of matrix start) u v first.cells second.cells first.same
      second.same (subst (λ (d : List Digit). key_of d u ≡ key_of d v) is e)

  module _ (limit : ℕ) (rings : List Ring) (ring : Ring) (gathered : List ℕ)
      (w : IsKeyedWalk (fiber_of matrix start) moves start limit digits rings ring gathered) where
    -- the tables visited so far are of the fiber
    visited-fiber : (v : List ℕ) → In v (visited_of rings ring) → In v (fiber_of matrix start)
    visited-fiber v i =
        rings_to-fiber (fiber_of matrix start) moves start walkable.begins w.walked.level v
        (subst (λ (list : List Ring). In v (tables_of list)) w.walked.so_far i)

    -- and those one step from the ring
    near-fiber : (v : List ℕ) → IsNear moves ring v → In v (fiber_of matrix start)
    near-fiber v near =
        walkable.closed near.0 v
        (ring-fiber (fiber_of matrix start) moves start limit rings ring (visited_of rings ring)
        w.walked walkable near.0 near.1) near.2

    -- so these have the margins of the start
    pub near-of_fiber : (v : List ℕ) → IsNear moves ring v →
        IsOfFiber (fiber_at matrix start) v
    near-of_fiber v near = of-fiber v (near-fiber v near)

    -- the tables of the ring and what steps make of them have keys
    pub ring-keyed : (width : ℕ) → width ≡ length matrix.columns → (u : List ℕ) → In u ring →
        HasKeyedSteps digits width moves u
    ring-keyed width e u i =
        let there =
        ring-fiber (fiber_of matrix start) moves start limit rings ring (visited_of rings ring)
        w.walked walkable u i in
        record {
          cells = (of-fiber u there).cells ∙ sym e;
          suits = fiber-suits u there;
          steps = λ v a.
              let near = near-fiber v (u, i, a) in
              record { suits = fiber-suits v near; fits = walkable.counts v near };
        }

    -- no table is visited twice
    visited-distinct : AreDistinct (visited_of rings ring)
    visited-distinct =
        subst (λ (list : List Ring). AreDistinct (tables_of list)) (sym w.walked.so_far)
        (rings_to-distinct (fiber_of matrix start) moves start walkable.ascends w.walked.level)

    module _ (after : List ℕ) (next : Ring)
        (f : FindsKeyed digits (IsNear moves ring) gathered after next) where
      -- what is found by keys is found
      pub finds-tables : Finds (IsNear moves ring) (visited_of rings ring)
          (visited_of rings ring ++ next) next
      finds-tables = record {
        visited = IsPermutation-refl (visited_of rings ring ++ next);
        sought = f.sought;
        new = λ v i j. f.new v i ((w.keys (key_of digits v)).1 (v, j, refl));
        once = distinct-ascends next f.ascends;
        all = λ v near fits. ⊎_elim
            (λ before.
            let h = (w.keys (key_of digits v)).0 before in
            In-left v (visited_of rings ring) next
            (subst (λ u. In u (visited_of rings ring))
            (sym (one-table v h.0 (near-fiber v near) (visited-fiber h.0 h.1) h.2)) h.1))
            (λ h.
            In-right v (visited_of rings ring) next
            (subst (λ u. In u next)
            (sym (one-table v h.0 (near-fiber v near)
            (near-fiber h.0 (f.sought h.0 h.1)) h.2)) h.1))
            ((f.keys (key_of digits v)).0 (f.all v near));
      }

      -- after the ring is expanded
      pub keyed-step : 0 < length ring →
          length next + length (visited_of rings ring) ≤ limit →
          IsKeyedWalk (fiber_of matrix start) moves start limit digits (rings ++ ring ∷ []) next
          after
      keyed-step some room =
          let all : visited_of (rings ++ ring ∷ []) next ≡ visited_of rings ring ++ next =
          tables_of-push (rings ++ ring ∷ []) next in
          let many = length-append (visited_of rings ring) next in
          record {
            walked =
                subst (λ (list : List (List ℕ)). IsWalked (fiber_of matrix start) moves start limit
                (rings ++ ring ∷ []) next list) (sym all)
                (walked-step (fiber_of matrix start) moves start limit rings ring
                (visited_of rings ring) w.walked walkable (visited_of rings ring ++ next) next
                finds-tables f.ascends some (omega arith));
            once = f.once;
            keys = λ key. (
              (λ i. ⊎_elim
                  (λ before. let h = (w.keys key).0 before in (
                    h.0,
                    subst (λ (list : List (List ℕ)). In h.0 list) (sym all)
                        (In-left h.0 (visited_of rings ring) next h.1),
                    h.2,
                  ))
                  (λ h. (
                    h.0,
                    subst (λ (list : List (List ℕ)). In h.0 list) (sym all)
                        (In-right h.0 (visited_of rings ring) next h.1),
                    h.2,
                  ))
                  ((f.keys key).0 i)),
              (λ h. (f.keys key).1 (⊎_elim
                  (λ i. inl ((w.keys key).1 (h.0, i, h.2)))
                  (λ i. inr (h.0, i, h.2))
                  (In-cases h.0 (visited_of rings ring) next
                  (subst (λ (list : List (List ℕ)). In h.0 list) all h.1)))),
            );
          }

    -- where more new keys than there is room for are found, so many tables are
    pub keyed-over : (room : ℕ) → limit ≤ room + length (visited_of rings ring) →
        (fault : WalkFault) →
        IsKeyFault (IsKeyOf digits (IsNear moves ring)) gathered room limit fault →
        IsSearchFault (IsNear moves ring) limit (visited_of rings ring) fault
    keyed-over room e OutOfMemory x = tt
    keyed-over room e (TooLarge seen) x =
        let new = x.2 in
        let t = tables-for digits (IsNear moves ring) x.1 new.sought in
        let tables : List (List ℕ) = t.0 in
        let count : length tables ≡ length x.1 =
        sym (length-map tables (key_of digits)) ∙ ap (λ (l : List ℕ). length l) t.1 in
        let many = length-append (visited_of rings ring) tables in
        let over = x.3 in (
          x.0,
          tables,
          record {
            distinct =
                distinct-append (visited_of rings ring) tables visited-distinct
                (distinct-from_keys (key_of digits) tables
                (subst AreDistinctKeys (sym t.1) new.once))
                (λ v i j. new.new (key_of digits v)
                (subst (λ list. In (key_of digits v) list) t.1
                (In-map (key_of digits) v tables j))
                ((w.keys (key_of digits v)).1 (v, i, refl)));
            sought = t.2;
            many = omega arith;
          },
        )

    -- each key that is gathered then is that of a reached table
    pub keyed-reached : (key : ℕ) →
        In key gathered ⊎ IsKeyOf digits (IsNear moves ring) key →
        IsKeyOf digits (λ v. In v (reached matrix moves start)) key
    keyed-reached key (inl i) =
        let h = (w.keys key).0 i in (
          h.0,
          joined-reached (fiber_of matrix start) moves start walkable.ascends walkable.begins
              walkable.closed h.0
              (rings_to-joined (fiber_of matrix start) moves start w.walked.level h.0
              (subst (λ (list : List Ring). In h.0 (tables_of list)) w.walked.so_far h.1)),
          h.2,
        )
    keyed-reached key (inr h) =
        let near = h.1 in
        let u = near.0 in
        let there : In u (visited_of rings ring) =
        subst (λ (list : List (List ℕ)). In u list) (sym (tables_of-push rings ring))
        (In-right u (tables_of rings) ring near.1) in (
          h.0,
          joined-reached (fiber_of matrix start) moves start walkable.ascends walkable.begins
              walkable.closed h.0
              (rings_to-joined (fiber_of matrix start) moves start (ℕ.suc w.walked.level) h.0
              (rings_to-step (fiber_of matrix start) moves start w.walked.level u h.0
              (subst (λ (list : List Ring). In u (tables_of list)) w.walked.so_far there) near.2
              (near-fiber h.0 near))),
          h.2,
        )

    -- at the end the gathered keys are those of the tables of the rings
    pub keyed-end : ring ≡ [] → AreKeysOf digits (tables_of rings) gathered
    keyed-end e =
        let all : visited_of rings ring ≡ tables_of rings =
        tables_of-push rings ring ∙ ap (λ (r : Ring). tables_of rings ++ r) e
        ∙ append-nil (tables_of rings) in
        record {
          once = w.once;
          each = λ key. (
            (λ i. let h = (w.keys key).0 i in
                (h.0, subst (λ (list : List (List ℕ)). In h.0 list) all h.1, h.2)),
            (λ h. (w.keys key).1
                (h.0, subst (λ (list : List (List ℕ)). In h.0 list) (sym all) h.1, h.2)),
          );
        }

  -- before the first step
  pub keyed-start : (limit : ℕ) (ring : Ring) (gathered : List ℕ) → ring ≡ start ∷ [] →
      gathered ≡ key_of digits start ∷ [] → 1 ≤ limit →
      IsKeyedWalk (fiber_of matrix start) moves start limit digits [] ring gathered
  unfolding In
  keyed-start limit ring gathered e f some =
      subst (λ (r : Ring). IsKeyedWalk (fiber_of matrix start) moves start limit digits [] r
      gathered) (sym e)
      (subst (IsKeyedWalk (fiber_of matrix start) moves start limit digits [] (start ∷ []))
      (sym f) (record {
        walked =
            walked-start (fiber_of matrix start) moves start limit (start ∷ [])
            (visited_of [] (start ∷ [])) refl (IsPermutation-refl (start ∷ [])) some;
        once = ((λ i. i), tt);
        keys = λ key. (
          (λ i. (start, inl refl, ⊎_elim (λ same. same) (λ none. absurd none) i)),
          (λ h. inl (h.2 ∙ ap (key_of digits) (⊎_elim (λ same. same) (λ none. absurd none) h.1))),
        );
      }))
