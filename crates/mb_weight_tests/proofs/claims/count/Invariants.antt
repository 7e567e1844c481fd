use Rattle.std.proofs.Common.{◌≡◌}
use Rattle.mb_claims.specs.Claims.{IsPassOf}
use Rattle.mb_weight_tests.proofs.claims.count.Given as goal

abbrev pub invariant-loop-key : goal.invariant-loop-key
invariant-loop-key l =
    IsPassOf l.shards l.pass × (l.pass.knows.number ≡ l.initial.pass.knows.number)
