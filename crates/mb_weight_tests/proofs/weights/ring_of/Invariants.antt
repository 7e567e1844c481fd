use Rattle.std.proofs.Common.{All, length, ◌≡◌}
use Rattle.mb_weight_tests.proofs.weights.ring_of.Given as goal

abbrev pub invariant-loop-table : goal.invariant-loop-table
invariant-loop-table l = All (λ table. length table ≡ l.cells) l.ring.items
