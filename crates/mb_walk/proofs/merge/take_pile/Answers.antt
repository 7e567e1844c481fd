use Rattle.std.proofs.Common.{List, ap, length}
use Rattle.mb_rings.specs.Ring.{Ring}
use Rattle.mb_walk.proofs.MergeSteps.{no-pile}
use Rattle.mb_walk.proofs.merge.take_pile.Goals as goal

pub returns-in_default : goal.returns-in_default
returns-in_default c e = (
  e,
  no-pile c.args.number (length c.as_slice.result.now) c.args.dealer.now c.args.owner.now.visited
      c.args.owner.now.next.items
      (ap (λ (piles : List Ring). length piles) c.as_slice.ensures.value)
      c.in_default.ensures.lookup.0,
)
