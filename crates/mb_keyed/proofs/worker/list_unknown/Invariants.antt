use Rattle.std.proofs.Common.{take}
use Rattle.mb_keyed.proofs.worker.list_unknown.Given as goal
use Rattle.mb_keyed.specs.loops.Worked.{AreUnknown, keys_in}

abbrev pub invariant-loop-one : goal.invariant-loop-one
invariant-loop-one l =
    AreUnknown l.worker.cache (take l.one-index (keys_in l.near)) (keys_in l.unknown.items)
