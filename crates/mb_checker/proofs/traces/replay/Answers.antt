use Rattle.mb_checker.proofs.ReplayedSteps.{replay-ends, replay-goes, replay-stops}
use Rattle.mb_checker.proofs.traces.replay.Goals as goal
use Rattle.mb_certificate.specs.FirstFault.{replay}

pub returns-then-not-step-clause-none : goal.returns-then-not-step-clause-none
returns-then-not-step-clause-none c =
    let rules = c.args.certificate.now.rules in
    let trace = c.args.trace.now in
    replay-stops rules trace c.loop-k.k-index c.loop-k.m.list (replay rules trace c.args.m.now.list)
    c.loop-k.invariant.rest c.loop-k-test.true c.if-not-step.ensures.none

pub loop-k-preserved : goal.loop-k-preserved
loop-k-preserved c = record {
  rest =
      (let rules = c.args.certificate.now.rules in
      let trace = c.args.trace.now in
      replay-goes rules trace c.loop-k.k-index c.loop-k.m.list
      (replay rules trace c.args.m.now.list) c.loop-k.invariant.rest c.step.new.m.list
      c.loop-k-test.true c.if-not-step.ensures.made);
  shape = c.step.ensures.shape;
  light = c.step.ensures.light;
}

pub returns-clause-made : goal.returns-clause-made
returns-clause-made c =
    let rules = c.args.certificate.now.rules in
    let trace = c.args.trace.now in
    replay-ends rules trace c.loop-k.k-index c.loop-k.m.list (replay rules trace c.args.m.now.list)
    c.loop-k.invariant.rest c.loop-k-test.false
