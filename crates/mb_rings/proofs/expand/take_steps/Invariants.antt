use Rattle.std.proofs.Common.{◌≡◌}
use Rattle.mb_rings.proofs.PlacesBelow.{SteppedBelow}
use Rattle.mb_rings.proofs.SearchSteps.{IsSearching}
use Rattle.mb_rings.specs.loops.InTurn.{AddsInTurn, turns_of}
use Rattle.mb_rings.proofs.expand.take_steps.Given as goal

abbrev pub invariant-loop-z : goal.invariant-loop-z
invariant-loop-z l =
    IsSearching (SteppedBelow l.z-items l.z-index l.initial.table) l.limit l.initial.visited
    l.visited l.initial.next.items l.next.items
    × (l.table ≡ l.initial.table)
    × AddsInTurn l.z-items l.initial.table (turns_of l.z-index) l.initial.visited
    l.initial.next.items l.next.items
