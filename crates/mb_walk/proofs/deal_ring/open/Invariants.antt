use Rattle.std.proofs.Common.{All, length, ◌≡◌}
use Rattle.mb_walk.specs.loops.Piles.{IsIdle}
use Rattle.mb_walk.proofs.deal_ring.open.Given as goal

abbrev pub invariant-loop : goal.invariant-loop
invariant-loop l = (length l.dealers.items ≡ l.counter) × All IsIdle l.dealers.items
