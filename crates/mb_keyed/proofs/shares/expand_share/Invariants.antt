use Rattle.mb_keyed.proofs.shares.expand_share.Given as goal
use Rattle.mb_keyed.specs.loops.Keyed.{digits_in}
use Rattle.mb_keyed.specs.loops.Worked.{Claims, IsWorkerOf}
use Rattle.mb_rings.proofs.PlacesBelow.{NearBelow}
use Rattle.mb_rings.specs.Claimed.{IsKeyOf}

abbrev pub invariant-loop-place : goal.invariant-loop-place
invariant-loop-place g l =
    IsWorkerOf l.shards l.worker
    × Claims (IsKeyOf (digits_in l.graph.fiber) (NearBelow l.graph.moves.rows l.share l.place))
    l.initial.worker l.worker
