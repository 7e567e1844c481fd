use Rattle.std.proofs.Common.{Global, List, Ok, Vec, [], ap, arith, length, length-append, rules, subst, sym, ℕ, ◌++◌, ◌+◌, ◌<◌, ◌∙◌, ◌∷◌, ◌≡◌, ◌≤◌}
use Rattle.std.proofs.lemmas.List.{map-append}
use Rattle.std.proofs.lemmas.List.Sorted.{length_permutation}
use Rattle.std.specs.List.{refill}
use Rattle.mb_keyed.proofs.LentLists.{refill-all}
use Rattle.mb_matrix.specs.Matrix.{fiber_of}
use Rattle.mb_rings.proofs.FiberSteps.{fiber-walkable}
use Rattle.mb_rings.proofs.Walking.{IsWalked, distance, distance-falls, no-length, ring-known, some-length, under-limit, walked-end, walked-few, walked-over, walked-start, walked-step, walked-total}
use Rattle.mb_rings.specs.loops.Found.{Finds, IsSearchFault}
use Rattle.mb_rings.specs.loops.RingList.{listed}
use Rattle.mb_rings.specs.Walk.{walk_cause, walk_of, within_limit}
use Rattle.mb_rings.specs.Walked.{Walked}
use Rattle.mb_tables.specs.Lists.{In}
use Rattle.mb_tables.specs.Step.{IsNear}
use Rattle.mb_tables.proofs.HandedOn.{gives-handed_on}
use Rattle.mb_walk.proofs.RingCells.{ring-cells}
use Rattle.mb_walk.specs.declared.owner.Owner.{Owner}
use Rattle.mb_walk.specs.loops.Piles.{AreOwned, kept, seen_by}
use Rattle.mb_walk.proofs.owned_walk.walk_by_tables.Given as given
use Rattle.mb_walk.proofs.owned_walk.walk_by_tables.Goals as goal

pub loop-alloc-init : goal.loop-alloc-init
loop-alloc-init g c =
    let owners = c.in_ok-owners.owners.items in (
      subst (λ rings. IsWalked (fiber_of c.args.matrix.now c.args.start.now) c.args.moves.now.rows
          c.args.start.now c.args.limit (listed rings) c.push.new.self.items (seen_by owners))
          (sym c.new-rings.ensures.items)
          (walked-start (fiber_of c.args.matrix.now c.args.start.now) c.args.moves.now.rows
          c.args.start.now c.args.limit c.push.new.self.items (seen_by owners)
          (c.in_ok-push.ensures.items
          ∙ ap (λ old. old ++ c.in_ok-try_copy.field-0 ∷ []) c.new-ring.ensures.items
          ∙ ap (λ t. t ∷ []) c.in_ok-try_copy.ensures)
          c.in_ok-owners.ensures.seen c.requires.some),
      sym (length_permutation (c.args.start.now ∷ []) (seen_by owners) c.in_ok-owners.ensures.seen),
      c.in_ok-owners.ensures.count,
      subst (λ n. AreOwned n (kept owners)) (sym c.in_ok-owners.ensures.count)
          c.in_ok-owners.ensures.parts,
    )

pub next_by_piles-requires-clause-widths : goal.next_by_piles-requires-clause-widths
next_by_piles-requires-clause-widths g c κs within u i =
    ring-cells c.args.matrix.now c.cols.ensures.sound c.args.start.now c.args.moves.now.rows
    c.requires.moves c.requires.cells c.requires.margins c.args.limit
    (listed c.loop-alloc.rings.items) c.loop-alloc.ring.items (seen_by c.loop-alloc.owners.items)
    c.loop-alloc.invariant.0 u (subst (In u) c.as_slice.ensures.value i)
    ∙ sym c.requires.width

pub next_by_piles-requires-clause-known : goal.next_by_piles-requires-clause-known
next_by_piles-requires-clause-known g c κs within =
    subst (λ n. length c.as_slice.result.now ≤ n) (sym c.loop-alloc.invariant.1)
    (subst (λ ring. length ring ≤ length (seen_by c.loop-alloc.owners.items))
    (sym c.as_slice.ensures.value)
    (ring-known (fiber_of c.args.matrix.now c.args.start.now) c.args.moves.now.rows
    c.args.start.now c.args.limit (listed c.loop-alloc.rings.items) c.loop-alloc.ring.items
    (seen_by c.loop-alloc.owners.items) c.loop-alloc.invariant.0))

pub next_by_piles-requires-clause-parts : goal.next_by_piles-requires-clause-parts
next_by_piles-requires-clause-parts g c κs within =
    subst (λ (list : List Owner). AreOwned (length list) (kept list))
    (sym c.as_mut_slice-list.ensures.value) c.loop-alloc.invariant.3

pub returns-in_err-next-clause-rings : goal.returns-in_err-next-clause-rings
returns-in_err-next-clause-rings g c =
    let matrix = c.args.matrix.now in
    let start = c.args.start.now in
    let moves = c.args.moves.now.rows in
    let fault = c.in_err-next.field-0.0 in
    gives-handed_on walk_cause (λ (walked : Walked). walked.rings)
    c.from_residual-in_err-next.result fault
    (walk_of c.args.limit matrix moves start) c.from_residual-in_err-next.ensures.1
    (walked-over (fiber_of matrix start) moves start c.args.limit
    (listed c.loop-alloc.rings.items) c.loop-alloc.ring.items (seen_by c.loop-alloc.owners.items)
    c.loop-alloc.invariant.0
    (fiber-walkable matrix c.cols.ensures.sound start moves c.requires.moves
    c.requires.cells c.requires.margins)
    (some-length c.loop-alloc.ring.items c.loop-alloc.ring.len c.loop-alloc.ring.ok.0
    c.loop-alloc-test.ensures) fault
    (subst (λ ring. IsSearchFault (IsNear moves ring) c.args.limit
    (seen_by c.loop-alloc.owners.items) fault) c.as_slice.ensures.value
    (subst (λ (list : List Owner). IsSearchFault (IsNear moves c.as_slice.result.now) c.args.limit
    (seen_by list) fault) c.as_mut_slice-list.ensures.value c.in_err-next.ensures.refused)))

-- what the search of the ring found
found : (g : given.Over) (c : goal.In_ok-push-2 g) →
    Finds (IsNear c.args.moves.now.rows c.loop-alloc.ring.items)
    (seen_by c.loop-alloc.owners.items) (seen_by c.next_by_piles.new.owners)
    c.in_ok-next.next.items
found g c =
    subst (λ ring. Finds (IsNear c.args.moves.now.rows ring) (seen_by c.loop-alloc.owners.items)
    (seen_by c.next_by_piles.new.owners) c.in_ok-next.next.items) c.as_slice.ensures.value
    (subst (λ (list : List Owner). Finds (IsNear c.args.moves.now.rows c.as_slice.result.now)
    (seen_by list) (seen_by c.next_by_piles.new.owners) c.in_ok-next.next.items)
    c.as_mut_slice-list.ensures.value c.in_ok-next.ensures.found)

-- how many tables are kept then
grown : (g : given.Over) (c : goal.In_ok-push-2 g) →
    length (seen_by c.next_by_piles.new.owners)
    ≡ length (seen_by c.loop-alloc.owners.items) + length c.in_ok-next.next.items
grown g c =
    let f = found g c in
    length_permutation (seen_by c.loop-alloc.owners.items ++ c.in_ok-next.next.items)
    (seen_by c.next_by_piles.new.owners) f.visited
    ∙ length-append (seen_by c.loop-alloc.owners.items) c.in_ok-next.next.items

-- they are within the limit
room : (g : given.Over) (c : goal.In_ok-push-2 g) →
    length (seen_by c.next_by_piles.new.owners) ≤ c.args.limit
room g c =
    let e = grown g c in
    let seen = c.loop-alloc.invariant.1 in
    let few = c.in_ok-next.ensures.room in omega arith

-- the owners as the next ring finds them
same : (g : given.Over) (c : goal.In_ok-push-2 g) →
    refill c.loop-alloc.owners.len c.loop-alloc.owners.items c.next_by_piles.new.owners
    ≡ c.next_by_piles.new.owners
same g c =
    let items = c.loop-alloc.owners.items in
    let new = c.next_by_piles.new.owners in
    let was : length c.as_mut_slice-list.result.now ≡ length items =
    ap (λ (list : List Owner). length list) c.as_mut_slice-list.ensures.value in
    let count = c.next_by_piles.ensures.count in
    let ok = c.loop-alloc.owners.ok.0 in
    let e : c.loop-alloc.owners.len ≡ length new = omega arith in
    refill-all c.loop-alloc.owners.len items new e

pub loop-alloc-smaller : goal.loop-alloc-smaller
loop-alloc-smaller g c =
    subst (λ (list : List Owner). distance c.args.limit (seen_by list) c.in_ok-next.next.items
    < distance c.args.limit (seen_by c.loop-alloc.owners.items) c.loop-alloc.ring.items)
    (sym (same g c))
    (distance-falls (fiber_of c.args.matrix.now c.args.start.now) c.args.moves.now.rows
    c.args.start.now c.args.limit (listed c.loop-alloc.rings.items) c.loop-alloc.ring.items
    (seen_by c.loop-alloc.owners.items) c.loop-alloc.invariant.0
    (seen_by c.next_by_piles.new.owners) c.in_ok-next.next.items (found g c)
    (some-length c.loop-alloc.ring.items c.loop-alloc.ring.len c.loop-alloc.ring.ok.0
    c.loop-alloc-test.ensures)
    (room g c))

-- the rings with the one that was expanded, and the next one
walked : (g : given.Over) (c : goal.In_ok-push-2 g) →
    IsWalked (fiber_of c.args.matrix.now c.args.start.now) c.args.moves.now.rows
    c.args.start.now c.args.limit (listed c.push-in-loop-alloc.new.self.items)
    c.in_ok-next.next.items (seen_by c.next_by_piles.new.owners)
walked g c =
    let matrix = c.args.matrix.now in
    let start = c.args.start.now in
    let moves = c.args.moves.now.rows in
    subst (λ rings. IsWalked (fiber_of matrix start) moves start c.args.limit rings
    c.in_ok-next.next.items (seen_by c.next_by_piles.new.owners))
    (sym (ap listed c.in_ok-push-2.ensures.items
    ∙ map-append (λ (r : Vec (List ℕ) Global). r.items) c.loop-alloc.rings.items
    (c.loop-alloc.ring ∷ [])))
    (walked-step (fiber_of matrix start) moves start c.args.limit
    (listed c.loop-alloc.rings.items) c.loop-alloc.ring.items
    (seen_by c.loop-alloc.owners.items) c.loop-alloc.invariant.0
    (fiber-walkable matrix c.cols.ensures.sound start moves c.requires.moves
    c.requires.cells c.requires.margins) (seen_by c.next_by_piles.new.owners)
    c.in_ok-next.next.items (found g c) c.in_ok-next.ensures.ascending
    (some-length c.loop-alloc.ring.items c.loop-alloc.ring.len c.loop-alloc.ring.ok.0
    c.loop-alloc-test.ensures)
    (room g c))

pub loop-alloc-preserved : goal.loop-alloc-preserved
loop-alloc-preserved g c =
    let new = c.next_by_piles.new.owners in
    let was : length c.as_mut_slice-list.result.now ≡ length c.loop-alloc.owners.items =
    ap (λ (list : List Owner). length list) c.as_mut_slice-list.ensures.value in
    let count : length new ≡ c.args.workers =
    c.next_by_piles.ensures.count ∙ was ∙ c.loop-alloc.invariant.2 in
    let parts : AreOwned (length new) (kept new) =
    subst (λ n. AreOwned n (kept new)) (sym c.next_by_piles.ensures.count)
    c.in_ok-next.ensures.parts in
    let seen : c.loop-alloc.seen + c.len-in-loop-alloc.result ≡ length (seen_by new) =
    (let e = grown g c in
    let f = c.loop-alloc.invariant.1 in
    let l : c.len-in-loop-alloc.result ≡ length c.in_ok-next.next.items = search rules in
    omega arith) in
    subst (λ (list : List Owner). IsWalked (fiber_of c.args.matrix.now c.args.start.now)
    c.args.moves.now.rows c.args.start.now c.args.limit
    (listed c.push-in-loop-alloc.new.self.items) c.in_ok-next.next.items (seen_by list)
    × (c.loop-alloc.seen + c.len-in-loop-alloc.result ≡ length (seen_by list))
    × (length list ≡ c.args.workers)
    × AreOwned (length list) (kept list))
    (sym (same g c)) (walked g c, seen, count, parts)

pub from_lists-requires : goal.from_lists-requires
from_lists-requires g c =
    let empty = no-length c.loop-alloc.ring.items c.loop-alloc.ring.len c.loop-alloc.ring.ok.0
    c.loop-alloc-test.ensures in
    let total =
    walked-total (fiber_of c.args.matrix.now c.args.start.now) c.args.moves.now.rows
    c.args.start.now c.args.limit (listed c.loop-alloc.rings.items) c.loop-alloc.ring.items
    (seen_by c.loop-alloc.owners.items) c.loop-alloc.invariant.0 empty in
    let few =
    walked-few (fiber_of c.args.matrix.now c.args.start.now) c.args.moves.now.rows
    c.args.start.now c.args.limit (listed c.loop-alloc.rings.items) c.loop-alloc.ring.items
    (seen_by c.loop-alloc.owners.items) c.loop-alloc.invariant.0 in
    let room = c.loop-alloc.invariant.0.room in
    let small = c.requires.small in
    record { tables = c.loop-alloc.invariant.1 ∙ total; few = omega arith }

pub returns-clause-rings : goal.returns-clause-rings
returns-clause-rings g c =
    let matrix = c.args.matrix.now in
    let start = c.args.start.now in
    let moves = c.args.moves.now.rows in
    let visited = seen_by c.loop-alloc.owners.items in
    let empty =
    no-length c.loop-alloc.ring.items c.loop-alloc.ring.len c.loop-alloc.ring.ok.0
    c.loop-alloc-test.ensures in
    let same =
    walked-end (fiber_of matrix start) moves start c.args.limit (listed c.loop-alloc.rings.items)
    c.loop-alloc.ring.items visited c.loop-alloc.invariant.0
    (fiber-walkable matrix c.cols.ensures.sound start moves c.requires.moves
    c.requires.cells c.requires.margins) empty in
    let total =
    walked-total (fiber_of matrix start) moves start c.args.limit
    (listed c.loop-alloc.rings.items) c.loop-alloc.ring.items visited
    c.loop-alloc.invariant.0 empty in
    let room = c.loop-alloc.invariant.0.room in
    ap (within_limit c.args.limit) same
    ∙ under-limit c.args.limit (listed c.loop-alloc.rings.items) (omega arith)
    ∙ ap Ok (sym c.from_lists.ensures.rings)
