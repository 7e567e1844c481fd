use Rattle.std.proofs.Common.{ap}
use Rattle.mb_keyed.proofs.FoundSteps.{found-grown, found-none}
use Rattle.mb_keyed.proofs.claimed_ring.claim_ring.Goals as goal
use Rattle.mb_keyed.specs.loops.Graph.{IsKeyNear}
use Rattle.mb_keyed.specs.loops.Worked.{keys_in}

pub loop-init : goal.loop-init
loop-init g c = (
  c.make_room-shards.ensures.ours,
  c.make_room-shards.ensures.none_open,
  found-grown (IsKeyNear c.args.graph.now c.args.ring.now)
      c.args.root.now.knows.gathered c.args.root.now.knows.gathered
      c.make_room-shards.new.root.knows.gathered (keys_in c.new-found.result.items)
      (found-none (IsKeyNear c.args.graph.now c.args.ring.now)
      c.args.root.now.knows.gathered (keys_in c.new-found.result.items)
      (ap keys_in c.new-found.ensures.items))
      c.make_room-shards.ensures.keys,
)

pub returns-in-Err-clause-refused : goal.returns-in-Err-clause-refused
returns-in-Err-clause-refused g c =
    c.in-Err.ensures.refused c.args.root.now.knows.gathered c.loop.invariant.2

pub returns-in-Ok-None-clause-found : goal.returns-in-Ok-None-clause-found
returns-in-Ok-None-clause-found g c =
    c.in-Ok-None.ensures.found c.args.root.now.knows.gathered c.loop.invariant.2

pub loop-preserved : goal.loop-preserved
loop-preserved g c = (
  c.grow_full-grown.ensures.ours,
  c.grow_full-grown.ensures.none_open,
  found-grown (IsKeyNear c.args.graph.now c.args.ring.now)
      c.args.root.now.knows.gathered c.try_ring.new.root.knows.gathered
      c.grow_full-grown.new.root.knows.gathered (keys_in c.try_ring.new.found.items)
      (c.in-Ok-Some.ensures.found c.args.root.now.knows.gathered c.loop.invariant.2)
      c.grow_full-grown.ensures.keys,
)
