use Rattle.std.proofs.Common.{arith}
use Rattle.mb_rings.proofs.PlacesBelow.{get-there}
use Rattle.mb_walk.proofs.MergeSteps.{piled-all, piled-more, piled-none}
use Rattle.mb_walk.proofs.merge.merge.Goals as goal

pub loop-dealer-init : goal.loop-dealer-init
loop-dealer-init c e =
    piled-none c.args.dealers.now c.args.number c.args.owner.now.visited c.clear.new.self.items
    c.clear.ensures.items

pub loop-dealer-preserved : goal.loop-dealer-preserved
loop-dealer-preserved c e =
    let t = c.take_pile.ensures e in
    piled-more c.args.dealers.now c.loop-dealer.dealer-index c.args.number c.dealer-item.result
    (get-there c.args.dealers.now c.loop-dealer.dealer-index c.dealer-item.result (omega arith)
    c.dealer-item.is)
    c.args.owner.now.visited c.loop-dealer.owner.visited c.take_pile.new.owner.visited
    c.loop-dealer.owner.next.items c.take_pile.new.owner.next.items (c.loop-dealer.invariant t.0)
    t.1

pub returns : goal.returns
returns c e =
    piled-all c.args.dealers.now c.loop-dealer.dealer-index c.args.number
    c.args.owner.now.visited c.loop-dealer.owner.visited c.loop-dealer.owner.next.items
    (omega arith) (c.loop-dealer.invariant e)
