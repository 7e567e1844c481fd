use Rattle.std.proofs.Common.{All, length, ◌<◌, ◌⊎◌, vec_len}
use Rattle.mb_claims.specs.Claims.{IsRootOf}
use Rattle.mb_claims.specs.Closed.{ClosesAll}
use Rattle.mb_keyed.proofs.GatherSteps.{AreGathered}
use Rattle.mb_keyed.proofs.gathered.gather_all.Given as goal
use Rattle.mb_keyed.specs.loops.Rounds.{IsListed}
use Rattle.mb_keyed.specs.loops.Worked.{IsWorkerOf, keys_in}

abbrev pub invariant-loop-worker : goal.invariant-loop-worker
invariant-loop-worker l =
    IsRootOf l.shards l.root
    × All (IsWorkerOf l.shards) l.workers.items
    × All IsListed l.workers.items
    × AreGathered l.initial.workers.items l.workers.items l.initial.root.knows l.root.knows
    (keys_in l.initial.found.items) (keys_in l.found.items) l.left
    × ((0 < length l.workers.items) ⊎ ClosesAll l.root.knows)

abbrev pub decreases-loop-worker : goal.decreases-loop-worker
decreases-loop-worker l = vec_len l.workers
