use Rattle.std.proofs.Common.{take}
use Rattle.mb_keyed.proofs.worker.claim_all.Given as goal
use Rattle.mb_keyed.specs.loops.Worked.{Claims, IsWorkerOf, keys_in}
use Rattle.mb_tables.specs.Lists.{In}

abbrev pub invariant-loop-one : goal.invariant-loop-one
invariant-loop-one l =
    IsWorkerOf l.shards l.worker
    × Claims (λ key. In key (take l.one-index (keys_in l.keys))) l.initial.worker l.worker
