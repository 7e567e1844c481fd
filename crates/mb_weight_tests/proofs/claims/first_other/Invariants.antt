use Rattle.std.proofs.Common.{◌≡◌}
use Rattle.mb_claims.specs.Claims.{IsPassOf}
use Rattle.mb_weight_tests.proofs.claims.first_other.Given as goal

abbrev pub invariant-loop-place : goal.invariant-loop-place
invariant-loop-place l =
    IsPassOf l.shards l.pass × (l.pass.knows.number ≡ l.initial.pass.knows.number)
