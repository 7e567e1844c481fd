use Rattle.std.proofs.Common.{arith, length, refl, ◌≡◌}
use Rattle.mb_keyed.proofs.RoundSteps.{numbers-kept, worked-all}
use Rattle.mb_keyed.proofs.rounds.work_all.Goals as goal
use Rattle.mb_keyed.specs.loops.Keyed.{digits_in}

pub returns-clause-numbers : goal.returns-clause-numbers
returns-clause-numbers g c =
    let graph = c.args.graph.now in
    let same : length c.lend.new.workers ≡ length c.args.workers.now = omega arith in
    numbers-kept (digits_in graph.fiber) graph.moves.rows c.args.ring.now c.args.count
    (length c.args.workers.now) (omega arith) (omega arith) c.args.workers.now c.lend.new.workers
    refl same c.requires.idle c.lend.ensures.claimed

pub returns-clause-worked : goal.returns-clause-worked
returns-clause-worked g c =
    let graph = c.args.graph.now in
    let same : length c.lend.new.workers ≡ length c.args.workers.now = omega arith in
    worked-all (digits_in graph.fiber) graph.moves.rows c.args.ring.now c.args.count
    (length c.args.workers.now) (omega arith) (omega arith) c.args.workers.now c.lend.new.workers
    refl same c.requires.idle c.lend.ensures.claimed
