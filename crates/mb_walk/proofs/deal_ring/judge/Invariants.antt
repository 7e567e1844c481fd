use Rattle.std.proofs.Common.{get_or, ℕ, ◌<◌}
use Rattle.mb_walk.specs.loops.Piles.{IsWhole}
use Rattle.mb_walk.specs.declared.dealer.Dealer.{Dealer}
use Rattle.mb_walk.proofs.deal_ring.judge.Given as goal

abbrev pub invariant-loop-dealer : goal.invariant-loop-dealer
invariant-loop-dealer l =
    (k : ℕ) (d : Dealer) → k < l.dealer-index → IsWhole l.room (get_or l.dealers k d)
