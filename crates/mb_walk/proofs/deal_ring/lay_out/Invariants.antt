use Rattle.std.proofs.Common.{All, [], length, ◌≡◌}
use Rattle.mb_walk.proofs.deal_ring.lay_out.Given as goal

abbrev pub invariant-loop : goal.invariant-loop
invariant-loop l =
    (length l.dealer.piles.items ≡ l.counter)
    × All (λ pile. pile ≡ []) l.dealer.piles.items
    × (l.dealer.dealt ≡ 0)
