use Rattle.std.proofs.Common.{[], arith, subst, sym}
use Rattle.mb_rings.proofs.AscendingTables.{ascends-sorted}
use Rattle.mb_rings.proofs.Expanding.{over-ring, searched-ring, searching-none, searching-ring}
use Rattle.mb_rings.proofs.PlacesBelow.{NearBelow, below-none, get-there}
use Rattle.mb_rings.proofs.SearchSteps.{IsSearching, finds-permuted}
use Rattle.mb_rings.specs.loops.Found.{Finds, IsSearchFault}
use Rattle.mb_rings.proofs.next.next_ring.Given as given
use Rattle.mb_rings.proofs.next.next_ring.Goals as goal
use Rattle.mb_tables.proofs.ListLaws.{place-in}
use Rattle.mb_tables.proofs.HandedOn.{handed_on}
use Rattle.mb_tables.specs.Step.{IsNear}

pub loop-place-init : goal.loop-place-init
loop-place-init g c =
    subst (λ old. IsSearching (NearBelow c.args.moves.now.rows c.args.ring.now 0) c.args.limit
    c.args.visited.now c.args.visited.now [] old) (sym c.new-next.ensures.items)
    (searching-none (NearBelow c.args.moves.now.rows c.args.ring.now 0) c.args.limit
    c.args.visited.now [] (λ v h. below-none c.args.ring.now _ h) c.requires.room)

pub expand-requires-clause-width : goal.expand-requires-clause-width
expand-requires-clause-width g c =
    c.requires.widths c.index-ring-place.result
    (place-in c.args.ring.now c.loop-place.place c.index-ring-place.result
    (get-there c.args.ring.now c.loop-place.place c.index-ring-place.result (omega arith)
    c.index-ring-place.is))

pub returns-in_err-expand-clause-refused : goal.returns-in_err-expand-clause-refused
returns-in_err-expand-clause-refused g c =
    let moves = c.args.moves.now.rows in
    let ring = c.args.ring.now in
    let fault = c.in_err-expand.field-0.0 in
    handed_on c.from_residual.result fault
    (IsSearchFault (IsNear moves ring) c.args.limit c.args.visited.now) c.from_residual.ensures.1
    (over-ring moves ring c.loop-place.place c.index-ring-place.result
    (get-there ring c.loop-place.place c.index-ring-place.result (omega arith)
    c.index-ring-place.is) c.args.limit c.args.visited.now [] c.loop-place.visited
    c.loop-place.next.items fault c.loop-place.invariant c.in_err-expand.ensures.refused)

pub loop-place-preserved : goal.loop-place-preserved
loop-place-preserved g c =
    let ring = c.args.ring.now in
    searching-ring c.args.moves.now.rows ring c.loop-place.place c.index-ring-place.result
    (get-there ring c.loop-place.place c.index-ring-place.result (omega arith)
    c.index-ring-place.is) c.args.limit c.args.visited.now [] c.loop-place.visited
    c.loop-place.next.items c.expand.new.visited c.expand.new.next.items c.loop-place.invariant
    c.in_ok-expand.ensures.found c.in_ok-expand.ensures.room

-- what the search found, in ascending order
found : (g : given.Over) (c : goal.After-sort_unstable g) →
    Finds (IsNear c.args.moves.now.rows c.args.ring.now) c.args.visited.now c.loop-place.visited
    c.sort_unstable.new.self.items
found g c =
    finds-permuted (IsNear c.args.moves.now.rows c.args.ring.now) c.args.visited.now
    c.loop-place.visited c.loop-place.next.items c.sort_unstable.new.self.items
    (searched-ring c.args.moves.now.rows c.args.ring.now c.loop-place.place c.args.limit
    c.args.visited.now c.loop-place.visited [] c.loop-place.next.items (omega arith)
    c.loop-place.invariant)
    c.sort_unstable.ensures.permutation

pub returns-clause-found : goal.returns-clause-found
returns-clause-found g c = found g c

pub returns-clause-ascending : goal.returns-clause-ascending
returns-clause-ascending g c =
    let f = found g c in
    ascends-sorted c.sort_unstable.new.self.items c.sort_unstable.ensures.sorted f.once
