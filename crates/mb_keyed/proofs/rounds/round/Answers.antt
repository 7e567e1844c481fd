use Rattle.std.proofs.Common.{arith}
use Rattle.std.specs.List.{refill}
use Rattle.mb_keyed.proofs.FoundSteps.{round-near}
use Rattle.mb_keyed.proofs.LentLists.{refill-all}
use Rattle.mb_keyed.proofs.RoundSteps.{round-done}
use Rattle.mb_keyed.proofs.rounds.round.Given as given
use Rattle.mb_keyed.proofs.rounds.round.Goals as goal
use Rattle.mb_keyed.proofs.rounds.round.Goals.{After-gather_all}
use Rattle.mb_keyed.specs.loops.Graph.{IsKeyNear}
use Rattle.mb_keyed.specs.loops.Rounds.{IsRound}
use Rattle.mb_keyed.specs.loops.Worked.{keys_in}

-- the round is done
done : (g : given.Over) (c : After-gather_all g) →
    IsRound (IsKeyNear c.args.graph.now c.args.ring.now) c.args.root.now.knows.gathered
    c.gather_all.new.root.knows.gathered (keys_in c.args.found.now.items) (keys_in
    c.gather_all.new.found.items) c.gather_all.result
done g c =
    let items = c.in_ok-workers.workers.items in
    let new = c.work_all.new.workers in
    round-done (IsKeyNear c.args.graph.now c.args.ring.now) c.args.root.now.knows.gathered
    (keys_in c.args.found.now.items) (keys_in c.gather_all.new.found.items) c.open.new.root.knows
    c.gather_all.new.root.knows c.gather_all.result new
    (refill c.in_ok-workers.workers.len items new)
    (refill-all c.in_ok-workers.workers.len items new (omega arith)) c.work_all.ensures.worked
    c.open.ensures.gathered c.gather_all.ensures.gathered c.gather_all.ensures.notes
    c.gather_all.ensures.closed c.gather_all.ensures.left c.gather_all.ensures.found

pub returns-clause-round : goal.returns-clause-round
returns-clause-round g c = done g c

pub returns-clause-near : goal.returns-clause-near
returns-clause-near g c =
    round-near (IsKeyNear c.args.graph.now c.args.ring.now) c.args.root.now.knows.gathered
    c.gather_all.new.root.knows.gathered (keys_in c.args.found.now.items) (keys_in
    c.gather_all.new.found.items) c.gather_all.result (done g c)
