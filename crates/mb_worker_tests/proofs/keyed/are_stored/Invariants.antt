use Rattle.mb_claims.specs.Claims.{IsPassOf}
use Rattle.mb_worker_tests.proofs.keyed.are_stored.Given as goal

abbrev pub invariant-loop-ring : goal.invariant-loop-ring
invariant-loop-ring l = IsPassOf l.shards l.pass
