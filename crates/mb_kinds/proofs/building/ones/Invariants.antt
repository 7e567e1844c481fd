use Rattle.std.proofs.Common.{map, ◌≡◌}
use Rattle.std.specs.List.{range_with_len}
use Rattle.mb_kinds.proofs.building.ones.Given as goal

abbrev pub invariant-loop : goal.invariant-loop
invariant-loop l = l.base.items ≡ map (λ k. 1) (range_with_len 0 l.counter)
