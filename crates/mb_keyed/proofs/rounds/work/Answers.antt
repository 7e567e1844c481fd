use Rattle.std.proofs.Common.{arith, subst, ◌≡◌}
use Rattle.mb_keyed.proofs.RoundSteps.{worked-none, worked-share}
use Rattle.mb_keyed.proofs.rounds.work.Goals as goal
use Rattle.mb_keyed.specs.loops.Keyed.{digits_in}
use Rattle.mb_keyed.specs.loops.Rounds.{IsNearBefore}
use Rattle.mb_keyed.specs.loops.Worked.{Claims}
use Rattle.mb_rings.specs.Claimed.{IsKeyOf}

pub loop-share-init : goal.loop-share-init
loop-share-init g c =
    let graph = c.args.graph.now in (
      c.requires.ours,
      worked-none (digits_in graph.fiber) graph.moves.rows c.args.ring.now c.args.count
          c.args.passes c.args.number c.args.worker.now,
    )

pub loop-share-preserved : goal.loop-share-preserved
loop-share-preserved g c =
    let graph = c.args.graph.now in (
      c.try_share.ensures.ours,
      worked-share (digits_in graph.fiber) graph.moves.rows c.args.ring.now c.args.count
          c.args.passes c.args.number c.loop-share.share c.args.worker.now c.loop-share.worker
          c.try_share.new.worker c.loop-share.invariant.1 c.try_share.ensures.claimed,
    )

pub returns-clause-claimed : goal.returns-clause-claimed
returns-clause-claimed g c =
    let graph = c.args.graph.now in
    let e : c.loop-share.share ≡ c.args.count = omega arith in
    subst (λ end. Claims (IsKeyOf (digits_in graph.fiber) (IsNearBefore graph.moves.rows
    c.args.ring.now c.args.count c.args.passes c.args.number end)) c.args.worker.now
    c.loop-share.worker) e c.loop-share.invariant.1
