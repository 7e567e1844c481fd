use Rattle.std.proofs.Common.{length, vec_capacity, ◌≤◌}
use Rattle.mb_claims.specs.Claims.{IsRootOf}
use Rattle.mb_keyed.proofs.OpenSteps.{AreOpened}
use Rattle.mb_keyed.proofs.opened.open.Given as goal

abbrev pub invariant-loop : goal.invariant-loop
invariant-loop l =
    IsRootOf l.shards l.root
    × AreOpened l.shards l.initial.root l.root l.workers.items
    × (length l.workers.items ≤ l.counter)
    × (l.count ≤ vec_capacity l.workers)
