use Rattle.std.proofs.Common.{[]}
use Rattle.mb_keyed.proofs.near_keys.list_near.Given as goal
use Rattle.mb_keyed.specs.loops.Keyed.{digits_in}
use Rattle.mb_keyed.specs.loops.Worked.{Gains}
use Rattle.mb_rings.proofs.PlacesBelow.{SteppedBelow}
use Rattle.mb_rings.specs.Claimed.{IsKeyOf}

abbrev pub invariant-loop-k : goal.invariant-loop-k
invariant-loop-k l =
    Gains (IsKeyOf (digits_in l.graph.fiber) (SteppedBelow l.z-items l.k l.counts)) [] l.near.items
