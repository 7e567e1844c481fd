use Rattle.std.proofs.Common.{ℕ, ◌<◌, ◌≡◌}
use Rattle.mb_checker.proofs.rules.same_weights.Given as goal
use Rattle.mb_order.specs.Weight.{weights}
use Rattle.mb_tables.specs.Vectors.{at}

abbrev pub invariant-loop-row : goal.invariant-loop-row
invariant-loop-row l =
    (i : ℕ) → i < l.row → at (weights l.matrix l.a.list) i ≡ at (weights l.matrix l.b.list) i
