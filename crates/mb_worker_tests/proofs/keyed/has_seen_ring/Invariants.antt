use Rattle.mb_claims.specs.Claims.{IsPassOf}
use Rattle.mb_worker_tests.proofs.keyed.has_seen_ring.Given as goal

abbrev pub invariant-loop-table : goal.invariant-loop-table
invariant-loop-table l = IsPassOf l.shards l.pass
