use Rattle.std.proofs.Common.{map, take, ◌≡◌}
use Rattle.mb_kinds.specs.Kinds.{orders}
use Rattle.mb_kinds.proofs.hardy_weinberg.orders.Given as goal

abbrev pub invariant-loop-pair : goal.invariant-loop-pair
invariant-loop-pair l = l.base.items ≡ map orders (take l.pair-index l.pairs)
