use Rattle.std.proofs.Common.{true, ℕ, ◌<◌, ◌≡◌}
use Rattle.mb_completion.proofs.reduction.is_minimal.Given as goal
use Rattle.mb_order.specs.Peak.{left_of}
use Rattle.mb_tables.specs.Vectors.{within}

abbrev pub invariant-loop-q : goal.invariant-loop-q
invariant-loop-q l =
    (i : ℕ) → i < l.q → within (left_of l.rules.rules i) (left_of l.rules.rules l.k) ≡ true →
    left_of l.rules.rules i ≡ left_of l.rules.rules l.k
