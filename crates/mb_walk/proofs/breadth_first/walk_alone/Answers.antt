use Rattle.std.proofs.Common.{Global, List, Ok, Vec, [], ap, arith, length, subst, sym, ℕ, ◌++◌, ◌∙◌, ◌∷◌, ◌≤◌}
use Rattle.std.proofs.lemmas.List.{map-append}
use Rattle.std.specs.List.Sorted.{IsPermutation}
use Rattle.mb_matrix.specs.Matrix.{fiber_of}
use Rattle.mb_rings.proofs.FiberSteps.{fiber-walkable}
use Rattle.mb_rings.proofs.Walking.{IsWalked, distance-falls, no-length, ring-known, some-length, under-limit, walked-end, walked-few, walked-over, walked-start, walked-step, walked-total}
use Rattle.mb_rings.specs.loops.Found.{Finds, IsSearchFault}
use Rattle.mb_rings.specs.Walk.{walk_cause, walk_of, within_limit}
use Rattle.mb_rings.specs.Walked.{Walked}
use Rattle.mb_rings.specs.loops.RingList.{listed}
use Rattle.mb_tables.specs.Lists.{In}
use Rattle.mb_tables.proofs.HandedOn.{gives-handed_on}
use Rattle.mb_tables.specs.Step.{IsNear}
use Rattle.mb_walk.proofs.RingCells.{ring-cells}
use Rattle.mb_walk.proofs.breadth_first.walk_alone.Given as given
use Rattle.mb_walk.proofs.breadth_first.walk_alone.Goals as goal

pub insert-requires : goal.insert-requires
unfolding In
insert-requires g c = record {
  new =
      λ i. subst (λ list. In c.in_ok-try_copy.field-0 list) c.new-visited.ensures i;
}

pub loop-alloc-init : goal.loop-alloc-init
loop-alloc-init g c =
    subst (λ rings. IsWalked (fiber_of c.args.matrix.now c.args.start.now) c.args.moves.now.rows
    c.args.start.now c.args.limit (listed rings) c.push.new.self.items c.insert.new.self)
    (sym c.new-rings.ensures.items)
    (walked-start (fiber_of c.args.matrix.now c.args.start.now) c.args.moves.now.rows
    c.args.start.now c.args.limit c.push.new.self.items c.insert.new.self
    (c.in_ok-push.ensures.items
    ∙ ap (λ old. old ++ c.in_ok-try_copy-2.field-0 ∷ []) c.new-ring.ensures.items
    ∙ ap (λ t. t ∷ []) c.in_ok-try_copy-2.ensures)
    (subst (λ t. IsPermutation (t ∷ []) c.insert.new.self) c.in_ok-try_copy.ensures
    (subst (λ old. IsPermutation (c.in_ok-try_copy.field-0 ∷ old) c.insert.new.self)
    c.new-visited.ensures c.in_ok-insert.ensures.added)) c.requires.some)

pub next_ring-requires-clause-widths : goal.next_ring-requires-clause-widths
next_ring-requires-clause-widths g c u i =
    ring-cells c.args.matrix.now c.cols.ensures.sound c.args.start.now c.args.moves.now.rows
    c.requires.moves c.requires.cells c.requires.margins c.args.limit
    (listed c.loop-alloc.rings.items) c.loop-alloc.ring.items c.loop-alloc.visited
    c.loop-alloc.invariant u (subst (In u) c.as_slice.ensures.value i)
    ∙ sym c.requires.width

pub next_ring-requires-clause-known : goal.next_ring-requires-clause-known
next_ring-requires-clause-known g c =
    subst (λ ring. length ring ≤ length c.loop-alloc.visited) (sym c.as_slice.ensures.value)
    (ring-known (fiber_of c.args.matrix.now c.args.start.now) c.args.moves.now.rows
    c.args.start.now c.args.limit (listed c.loop-alloc.rings.items) c.loop-alloc.ring.items
    c.loop-alloc.visited c.loop-alloc.invariant)

pub returns-in_err-next-clause-rings : goal.returns-in_err-next-clause-rings
returns-in_err-next-clause-rings g c =
    let matrix = c.args.matrix.now in
    let start = c.args.start.now in
    let moves = c.args.moves.now.rows in
    let fault = c.in_err-next.field-0.0 in
    gives-handed_on walk_cause (λ (walked : Walked). walked.rings)
    c.from_residual-in_err-next.result fault
    (walk_of c.args.limit matrix moves start) c.from_residual-in_err-next.ensures.1
    (walked-over (fiber_of matrix start) moves start c.args.limit
    (listed c.loop-alloc.rings.items) c.loop-alloc.ring.items c.loop-alloc.visited
    c.loop-alloc.invariant
    (fiber-walkable matrix c.cols.ensures.sound start moves c.requires.moves
    c.requires.cells c.requires.margins)
    (some-length c.loop-alloc.ring.items c.loop-alloc.ring.len c.loop-alloc.ring.ok.0
    c.loop-alloc-test.ensures) fault
    (subst (λ ring. IsSearchFault (IsNear moves ring) c.args.limit c.loop-alloc.visited fault)
    c.as_slice.ensures.value c.in_err-next.ensures.refused))

-- what the search of the ring found
found : (g : given.Over) (c : goal.In_ok-push-2 g) →
    Finds (IsNear c.args.moves.now.rows c.loop-alloc.ring.items) c.loop-alloc.visited
    c.next_ring.new.visited c.in_ok-next.next.items
found g c =
    subst (λ ring. Finds (IsNear c.args.moves.now.rows ring) c.loop-alloc.visited
    c.next_ring.new.visited c.in_ok-next.next.items) c.as_slice.ensures.value
    c.in_ok-next.ensures.found

pub loop-alloc-smaller : goal.loop-alloc-smaller
loop-alloc-smaller g c =
    distance-falls (fiber_of c.args.matrix.now c.args.start.now) c.args.moves.now.rows
    c.args.start.now c.args.limit (listed c.loop-alloc.rings.items) c.loop-alloc.ring.items
    c.loop-alloc.visited c.loop-alloc.invariant c.next_ring.new.visited c.in_ok-next.next.items
    (found g c) (some-length c.loop-alloc.ring.items c.loop-alloc.ring.len c.loop-alloc.ring.ok.0
    c.loop-alloc-test.ensures)
    c.in_ok-next.ensures.room

pub loop-alloc-preserved : goal.loop-alloc-preserved
loop-alloc-preserved g c =
    let matrix = c.args.matrix.now in
    let start = c.args.start.now in
    let moves = c.args.moves.now.rows in
    subst (λ rings. IsWalked (fiber_of matrix start) moves start c.args.limit rings
    c.in_ok-next.next.items c.next_ring.new.visited)
    (sym (ap listed c.in_ok-push-2.ensures.items
    ∙ map-append (λ (r : Vec (List ℕ) Global). r.items) c.loop-alloc.rings.items
    (c.loop-alloc.ring ∷ [])))
    (walked-step (fiber_of matrix start) moves start c.args.limit
    (listed c.loop-alloc.rings.items) c.loop-alloc.ring.items c.loop-alloc.visited
    c.loop-alloc.invariant
    (fiber-walkable matrix c.cols.ensures.sound start moves c.requires.moves
    c.requires.cells c.requires.margins) c.next_ring.new.visited c.in_ok-next.next.items
    (found g c) c.in_ok-next.ensures.ascending
    (some-length c.loop-alloc.ring.items c.loop-alloc.ring.len c.loop-alloc.ring.ok.0
    c.loop-alloc-test.ensures) c.in_ok-next.ensures.room)

pub from_lists-requires : goal.from_lists-requires
from_lists-requires g c =
    let empty = no-length c.loop-alloc.ring.items c.loop-alloc.ring.len c.loop-alloc.ring.ok.0
    c.loop-alloc-test.ensures in
    let total =
    walked-total (fiber_of c.args.matrix.now c.args.start.now) c.args.moves.now.rows
    c.args.start.now c.args.limit (listed c.loop-alloc.rings.items) c.loop-alloc.ring.items
    c.loop-alloc.visited c.loop-alloc.invariant empty in
    let few =
    walked-few (fiber_of c.args.matrix.now c.args.start.now) c.args.moves.now.rows
    c.args.start.now c.args.limit (listed c.loop-alloc.rings.items) c.loop-alloc.ring.items
    c.loop-alloc.visited c.loop-alloc.invariant in
    let room = c.loop-alloc.invariant.room in
    let small = c.requires.small in
    record { tables = c.len-2.ensures.tables ∙ total; few = omega arith }

pub returns-clause-rings : goal.returns-clause-rings
returns-clause-rings g c =
    let matrix = c.args.matrix.now in
    let start = c.args.start.now in
    let moves = c.args.moves.now.rows in
    let empty =
    no-length c.loop-alloc.ring.items c.loop-alloc.ring.len c.loop-alloc.ring.ok.0
    c.loop-alloc-test.ensures in
    let same =
    walked-end (fiber_of matrix start) moves start c.args.limit (listed c.loop-alloc.rings.items)
    c.loop-alloc.ring.items c.loop-alloc.visited c.loop-alloc.invariant
    (fiber-walkable matrix c.cols.ensures.sound start moves c.requires.moves
    c.requires.cells c.requires.margins) empty in
    let total =
    walked-total (fiber_of matrix start) moves start c.args.limit
    (listed c.loop-alloc.rings.items) c.loop-alloc.ring.items c.loop-alloc.visited
    c.loop-alloc.invariant empty in
    let room = c.loop-alloc.invariant.room in
    ap (within_limit c.args.limit) same
    ∙ under-limit c.args.limit (listed c.loop-alloc.rings.items) (omega arith)
    ∙ ap Ok (sym c.from_lists.ensures.rings)
