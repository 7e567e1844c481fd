use Rattle.mb_keyed.proofs.rounds.work.Given as goal
use Rattle.mb_keyed.specs.loops.Keyed.{digits_in}
use Rattle.mb_keyed.specs.loops.Rounds.{IsNearBefore}
use Rattle.mb_keyed.specs.loops.Worked.{Claims, IsWorkerOf}
use Rattle.mb_rings.specs.Claimed.{IsKeyOf}

abbrev pub invariant-loop-share : goal.invariant-loop-share
invariant-loop-share g l =
    IsWorkerOf l.shards l.worker
    × Claims (IsKeyOf (digits_in l.graph.fiber) (IsNearBefore l.graph.moves.rows l.ring l.count
    l.passes l.number l.share)) l.initial.worker l.worker
