use Rattle.mb_walk.proofs.OpenOwners.{open-owner}
use Rattle.mb_walk.proofs.owner.open_owners.Goals as goal

pub loop-number-preserved : goal.loop-number-preserved
loop-number-preserved c =
    open-owner c.args.owners c.loop-number.number c.args.start.now c.loop-number.list.items
    c.push.new.self.items _ c.loop-number.invariant.0 c.in_ok-push.ensures.items
    c.loop-number.invariant.1 c.in_ok-visited.ensures.one c.in_ok-visited.ensures.none
