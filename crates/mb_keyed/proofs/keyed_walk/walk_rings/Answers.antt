use Rattle.std.proofs.Common.{Global, IfErr, IfOk, List, Ok, Result, Vec, ap, arith, length, subst, sym, ℕ, ◌+◌, ◌-◌, ◌∙◌, ◌≡◌, ◌≤◌, ◌⊎◌}
use Rattle.mb_keyed.proofs.KeyedWalks.{IsKeyedWalk, keyed-end, keyed-over, keyed-reached, keyed-start, keyed-step, near-of_fiber, ring-keyed, visited-count, visited_of}
use Rattle.mb_keyed.proofs.keyed_walk.walk_rings.Goals as goal
use Rattle.mb_keyed.specs.loops.Keyed.{FiberAt, FindsKeyed, IsKeyFault, IsOfFiber, digits_in}
use Rattle.mb_matrix.specs.Matrix.{fiber_of}
use Rattle.mb_rings.proofs.FiberSteps.{fiber-walkable}
use Rattle.mb_rings.proofs.Walking.{no-length, some-length, under-limit, walked-end, walked-few, walked-over}
use Rattle.mb_rings.specs.Claimed.{AreKeysOf, IsKeyOf}
use Rattle.mb_rings.specs.Ring.{tables_of}
use Rattle.mb_rings.specs.Walk.{within_limit}
use Rattle.mb_rings.specs.declared.fault.WalkFault.{WalkFault}
use Rattle.mb_rings.specs.loops.RingList.{listed}
use Rattle.mb_tables.specs.Lists.{In}
use Rattle.mb_tables.specs.Step.{IsNear}

pub loop-alloc-init : goal.loop-alloc-init
loop-alloc-init g c =
    let graph = c.args.graph.now in
    let digits = digits_in graph.fiber in
    let are = ap digits_in c.requires.fiber in
    let start = c.args.start.now in (
      c.requires.root_ours,
      c.requires.none_open,
      sym (ap (λ rings. length (tables_of (listed rings))) c.new-rings.ensures.items),
      subst (λ rings. IsKeyedWalk (fiber_of graph.fiber.matrix start) graph.moves.rows
          start c.args.limit digits (listed rings) c.args.ring.items
          c.args.root.now.knows.gathered) (sym c.new-rings.ensures.items)
          (keyed-start graph.fiber.matrix c.keys-keys.ensures.sound start c.requires.cells
          c.requires.fits graph.moves.rows c.requires.moves digits are
          c.args.limit c.args.ring.items c.args.root.now.knows.gathered c.requires.ring
          c.requires.first c.requires.some),
    )

pub next_keyed_ring-same-requires-clause-keyed : goal.next_keyed_ring-same-requires-clause-keyed
next_keyed_ring-same-requires-clause-keyed g c κs within u i =
    let graph = c.args.graph.now in
    let are = ap digits_in c.requires.fiber in
    let rings = listed c.loop-alloc.rings.items in
    ring-keyed graph.fiber.matrix c.keys-keys.ensures.sound c.args.start.now c.requires.cells
    c.requires.fits graph.moves.rows c.requires.moves (digits_in graph.fiber) are c.args.limit
    rings c.loop-alloc.ring.items c.loop-alloc.root.knows.gathered
    c.loop-alloc.invariant.3 graph.moves.width c.requires.width u
    (subst (In u) c.as_slice.ensures.value i)

pub next_keyed_ring-same-requires-clause-fiber : goal.next_keyed_ring-same-requires-clause-fiber
next_keyed_ring-same-requires-clause-fiber g c κs within v near =
    let graph = c.args.graph.now in
    let are = ap digits_in c.requires.fiber in
    let rings = listed c.loop-alloc.rings.items in
    subst (λ (fiber : FiberAt). IsOfFiber fiber v) (sym c.requires.fiber)
    (near-of_fiber graph.fiber.matrix c.keys-keys.ensures.sound c.args.start.now c.requires.cells
    c.requires.fits graph.moves.rows c.requires.moves (digits_in graph.fiber) are c.args.limit
    rings c.loop-alloc.ring.items c.loop-alloc.root.knows.gathered
    c.loop-alloc.invariant.3 v
    (subst (λ (ring : List (List ℕ)). IsNear graph.moves.rows ring v)
    c.as_slice.ensures.value near))

pub returns-in-Err-clause-rings : goal.returns-in-Err-clause-rings
returns-in-Err-clause-rings g c =
    let graph = c.args.graph.now in
    let digits = digits_in graph.fiber in
    let are = ap digits_in c.requires.fiber in
    let start = c.args.start.now in
    let sound = c.keys-keys.ensures.sound in
    let rings = listed c.loop-alloc.rings.items in
    let seen = visited-count rings c.loop-alloc.ring.items in
    let known = c.loop-alloc.invariant.2 in
    let here : c.len.result ≡ length c.loop-alloc.ring.items = omega arith in
    let room = c.args.limit - (c.loop-alloc.earlier + c.len.result) in
    walked-over (fiber_of graph.fiber.matrix start) graph.moves.rows start c.args.limit
    rings c.loop-alloc.ring.items
    (visited_of rings c.loop-alloc.ring.items)
    c.loop-alloc.invariant.3.walked
    (fiber-walkable graph.fiber.matrix sound start
    graph.moves.rows c.requires.moves c.requires.cells c.requires.fits)
    (some-length c.loop-alloc.ring.items c.loop-alloc.ring.len c.loop-alloc.ring.ok.0
    c.loop-alloc-test.ensures)
    c.in-Err.fault
    (keyed-over graph.fiber.matrix sound start c.requires.cells
    c.requires.fits graph.moves.rows c.requires.moves digits are c.args.limit
    rings c.loop-alloc.ring.items c.loop-alloc.root.knows.gathered
    c.loop-alloc.invariant.3 room (omega arith) c.in-Err.fault
    (subst (λ (ring : List (List ℕ)). IsKeyFault
    (IsKeyOf digits (IsNear graph.moves.rows ring))
    c.loop-alloc.root.knows.gathered room c.args.limit c.in-Err.fault) c.as_slice.ensures.value
    (subst (λ (r : Result (Vec (List ℕ) Global) WalkFault). IfErr r (IsKeyFault
    (IsKeyOf digits (IsNear graph.moves.rows c.as_slice.result.now))
    c.loop-alloc.root.knows.gathered room c.args.limit)) c.in-Err.is
    c.next_keyed_ring-same.ensures.refused)))

pub returns-in-Err-clause-reached : goal.returns-in-Err-clause-reached
returns-in-Err-clause-reached g c key i =
    let graph = c.args.graph.now in
    let digits = digits_in graph.fiber in
    let are = ap digits_in c.requires.fiber in
    let rings = listed c.loop-alloc.rings.items in
    keyed-reached graph.fiber.matrix c.keys-keys.ensures.sound c.args.start.now c.requires.cells
    c.requires.fits graph.moves.rows c.requires.moves digits are c.args.limit
    rings c.loop-alloc.ring.items c.loop-alloc.root.knows.gathered
    c.loop-alloc.invariant.3 key
    (subst (λ (ring : List (List ℕ)). In key c.loop-alloc.root.knows.gathered
    ⊎ IsKeyOf digits (IsNear graph.moves.rows ring) key) c.as_slice.ensures.value
    (c.next_keyed_ring-same.ensures.near key i))

pub returns-then-not-add_ring-clause-reached : goal.returns-then-not-add_ring-clause-reached
returns-then-not-add_ring-clause-reached g c key i =
    let graph = c.args.graph.now in
    let digits = digits_in graph.fiber in
    let are = ap digits_in c.requires.fiber in
    let rings = listed c.loop-alloc.rings.items in
    keyed-reached graph.fiber.matrix c.keys-keys.ensures.sound c.args.start.now c.requires.cells
    c.requires.fits graph.moves.rows c.requires.moves digits are c.args.limit
    rings c.loop-alloc.ring.items c.loop-alloc.root.knows.gathered
    c.loop-alloc.invariant.3 key
    (subst (λ (ring : List (List ℕ)). In key c.loop-alloc.root.knows.gathered
    ⊎ IsKeyOf digits (IsNear graph.moves.rows ring) key) c.as_slice.ensures.value
    (c.next_keyed_ring-same.ensures.near key i))

pub loop-alloc-preserved : goal.loop-alloc-preserved
loop-alloc-preserved g c =
    let graph = c.args.graph.now in
    let digits = digits_in graph.fiber in
    let are = ap digits_in c.requires.fiber in
    let start = c.args.start.now in
    let rings = listed c.loop-alloc.rings.items in
    let seen = visited-count rings c.loop-alloc.ring.items in
    let known = c.loop-alloc.invariant.2 in
    let here : c.len.result ≡ length c.loop-alloc.ring.items = omega arith in
    let grown = c.if-not-add_ring.ensures in
    let found : FindsKeyed digits (IsNear graph.moves.rows c.loop-alloc.ring.items)
    c.loop-alloc.root.knows.gathered c.next_keyed_ring-same.new.root.knows.gathered
    c.in-Ok.next.items =
    subst (λ (ring : List (List ℕ)). FindsKeyed digits
    (IsNear graph.moves.rows ring) c.loop-alloc.root.knows.gathered
    c.next_keyed_ring-same.new.root.knows.gathered c.in-Ok.next.items) c.as_slice.ensures.value
    (subst (λ (r : Result (Vec (List ℕ) Global) WalkFault). IfOk r (λ next. FindsKeyed
    digits (IsNear graph.moves.rows c.as_slice.result.now)
    c.loop-alloc.root.knows.gathered c.next_keyed_ring-same.new.root.knows.gathered next.items))
    c.in-Ok.is c.next_keyed_ring-same.ensures.found) in
    let room : length c.in-Ok.next.items
    ≤ c.args.limit - (c.loop-alloc.earlier + c.len.result) =
    subst (λ (r : Result (Vec (List ℕ) Global) WalkFault). IfOk r (λ next.
    length next.items ≤ c.args.limit - (c.loop-alloc.earlier + c.len.result)))
    c.in-Ok.is c.next_keyed_ring-same.ensures.room in
    let fits = c.loop-alloc.invariant.3.walked.room in (
      c.next_keyed_ring-same.ensures.ours,
      c.next_keyed_ring-same.ensures.none_open,
      (let all = ap (λ rings. length (tables_of rings)) grown in omega arith),
      subst (λ rings. IsKeyedWalk (fiber_of graph.fiber.matrix start)
          graph.moves.rows start c.args.limit digits rings
          c.in-Ok.next.items c.next_keyed_ring-same.new.root.knows.gathered) (sym grown)
          (keyed-step graph.fiber.matrix c.keys-keys.ensures.sound start c.requires.cells
          c.requires.fits graph.moves.rows c.requires.moves digits are c.args.limit
          rings c.loop-alloc.ring.items c.loop-alloc.root.knows.gathered
          c.loop-alloc.invariant.3 c.next_keyed_ring-same.new.root.knows.gathered
          c.in-Ok.next.items found
          (some-length c.loop-alloc.ring.items c.loop-alloc.ring.len c.loop-alloc.ring.ok.0
          c.loop-alloc-test.ensures) (omega arith)),
    )

pub from_lists-requires : goal.from_lists-requires
from_lists-requires g c =
    let graph = c.args.graph.now in
    let start = c.args.start.now in
    let rings = listed c.loop-alloc.rings.items in
    let few =
    walked-few (fiber_of graph.fiber.matrix start) graph.moves.rows start c.args.limit
    rings c.loop-alloc.ring.items
    (visited_of rings c.loop-alloc.ring.items)
    c.loop-alloc.invariant.3.walked in
    let room = c.loop-alloc.invariant.3.walked.room in
    let small = c.requires.small in
    record { tables = c.loop-alloc.invariant.2; few = omega arith }

pub returns-clause-rings : goal.returns-clause-rings
returns-clause-rings g c =
    let graph = c.args.graph.now in
    let start = c.args.start.now in
    let rings = listed c.loop-alloc.rings.items in
    let empty =
    no-length c.loop-alloc.ring.items c.loop-alloc.ring.len c.loop-alloc.ring.ok.0
    c.loop-alloc-test.ensures in
    let same =
    walked-end (fiber_of graph.fiber.matrix start) graph.moves.rows start c.args.limit
    rings c.loop-alloc.ring.items
    (visited_of rings c.loop-alloc.ring.items)
    c.loop-alloc.invariant.3.walked
    (fiber-walkable graph.fiber.matrix c.keys-keys.ensures.sound start
    graph.moves.rows c.requires.moves c.requires.cells c.requires.fits) empty in
    let seen = visited-count rings c.loop-alloc.ring.items in
    let room = c.loop-alloc.invariant.3.walked.room in
    ap (within_limit c.args.limit) same
    ∙ under-limit c.args.limit rings (omega arith)
    ∙ ap Ok (sym c.from_lists.ensures.rings)

pub returns-clause-keys : goal.returns-clause-keys
returns-clause-keys g c =
    let graph = c.args.graph.now in
    let digits = digits_in graph.fiber in
    let are = ap digits_in c.requires.fiber in
    let rings = listed c.loop-alloc.rings.items in
    let empty =
    no-length c.loop-alloc.ring.items c.loop-alloc.ring.len c.loop-alloc.ring.ok.0
    c.loop-alloc-test.ensures in
    subst (λ (rings : List (List (List ℕ))). AreKeysOf digits (tables_of rings)
    c.loop-alloc.root.knows.gathered) (sym c.from_lists.ensures.rings)
    (keyed-end graph.fiber.matrix c.keys-keys.ensures.sound c.args.start.now c.requires.cells
    c.requires.fits graph.moves.rows c.requires.moves digits are c.args.limit
    rings c.loop-alloc.ring.items c.loop-alloc.root.knows.gathered
    c.loop-alloc.invariant.3 empty)
