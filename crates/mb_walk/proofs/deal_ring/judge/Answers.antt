use Rattle.std.proofs.Common.{arith, refl}
use Rattle.mb_rings.proofs.PlacesBelow.{get-there}
use Rattle.mb_walk.proofs.deal_ring.judge.Goals as goal

pub returns-then-dealer-room-clause-refused : goal.returns-then-dealer-room-clause-refused
returns-then-dealer-room-clause-refused c = (
  refl,
  c.loop-dealer.dealer-index,
  c.dealer-item.result,
  get-there c.args.dealers.now c.loop-dealer.dealer-index c.dealer-item.result (omega arith)
      c.dealer-item.is,
  omega arith,
)
