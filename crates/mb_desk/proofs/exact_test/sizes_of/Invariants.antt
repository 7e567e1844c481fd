use Rattle.std.proofs.Common.{List, length, map, take, ℕ, ◌≡◌}
use Rattle.mb_desk.proofs.exact_test.sizes_of.Given as goal

abbrev pub invariant-loop-k : goal.invariant-loop-k
invariant-loop-k l = l.sizes.items ≡ map (length {A = List ℕ}) (take l.k l.rings.rings)
