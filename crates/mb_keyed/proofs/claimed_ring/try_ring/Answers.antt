use Rattle.std.proofs.Common.{arith, refl}
use Rattle.std.proofs.lemmas.List.{length-map}
use Rattle.mb_keyed.proofs.FoundSteps.{found-round}
use Rattle.mb_keyed.proofs.claimed_ring.try_ring.Goals as goal
use Rattle.mb_keyed.specs.declared.ranked.Ranked.{Ranked}
use Rattle.mb_keyed.specs.loops.Graph.{IsKeyNear}
use Rattle.mb_keyed.specs.loops.Worked.{keys_in}

pub returns-then-len-room-clause-refused : goal.returns-then-len-room-clause-refused
returns-then-len-room-clause-refused g c known h =
    let old = keys_in c.args.found.now.items in
    let new = keys_in c.round.new.found.items in
    let found =
    found-round (IsKeyNear c.args.graph.now c.args.ring.now)
    known c.args.root.now.knows.gathered c.round.new.root.knows.gathered old
    new c.in_ok-left.left c.in_ok-left.ensures.round h c.if-left.false in
    let long = length-map c.round.new.found.items (λ (r : Ranked). r.key) in
    (refl, new, found.fresh, omega arith)

pub returns-then-left-2-clause-found : goal.returns-then-left-2-clause-found
returns-then-left-2-clause-found g c known h =
    let old = keys_in c.args.found.now.items in
    let new = keys_in c.round.new.found.items in
    found-round (IsKeyNear c.args.graph.now c.args.ring.now)
    known c.args.root.now.knows.gathered c.round.new.root.knows.gathered old
    new c.in_ok-left.left c.in_ok-left.ensures.round h c.if-left.false

pub returns-else-left-2-clause-found : goal.returns-else-left-2-clause-found
returns-else-left-2-clause-found g c known h =
    let old = keys_in c.args.found.now.items in
    let new = keys_in c.round.new.found.items in
    found-round (IsKeyNear c.args.graph.now c.args.ring.now)
    known c.args.root.now.knows.gathered c.round.new.root.knows.gathered old
    new c.in_ok-left.left c.in_ok-left.ensures.round h c.if-left.false
