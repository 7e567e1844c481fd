use Rattle.std.proofs.Common.{arith}
use Rattle.mb_keyed.proofs.StepLists.{move-cells, steps-all, steps-more, steps-none}
use Rattle.mb_keyed.proofs.step_list.steps_of.Goals as goal
use Rattle.mb_rings.proofs.PlacesBelow.{get-there}

pub loop-z-init : goal.loop-z-init
loop-z-init c =
    steps-none c.args.keys.now c.args.moves.now.width c.as_slice-z-items.result.now
    c.in_ok-list.list.items c.new-needs.result.items c.in_ok-list.ensures.items

pub loop-z-preserved : goal.loop-z-preserved
loop-z-preserved c =
    let there =
    get-there c.as_slice-z-items.result.now c.loop-z.z-index c.z-item.result (omega arith)
    c.z-item.is in
    steps-more c.args.keys.now c.args.moves.now.width c.as_slice-z-items.result.now
    c.loop-z.list.items c.push.new.self.items _ c.loop-z.needs.items
    c.push_needs.new.needs.items c.push_needs-in-loop-z.new.needs.items c.loop-z.z-index
    c.z-item.result c.loop-z.invariant there
    (move-cells c.args.moves.now c.as_slice-z-items.result.now c.loop-z.z-index c.z-item.result
    c.as_slice-z-items.ensures.sound c.as_slice-z-items.ensures.moves there)
    c.in_ok-push_needs.ensures c.in_ok-push_needs-2.ensures (omega arith) (omega arith)
    (omega arith) c.delta.ensures c.in_ok-push.ensures.items

pub returns : goal.returns
returns c =
    steps-all c.args.keys.now c.args.moves.now.width c.args.moves.now.rows
    c.as_slice-z-items.result.now _ c.loop-z.z-index c.as_slice-z-items.ensures.moves
    (omega arith) c.loop-z.invariant
