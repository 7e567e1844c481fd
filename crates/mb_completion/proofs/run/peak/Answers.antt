use Rattle.mb_completion.proofs.LookSteps.{lcm_suits}
use Rattle.mb_completion.proofs.run.peak.Goals as goal

pub returns-clause-shape : goal.returns-clause-shape
returns-clause-shape c =
    lcm_suits c.args.rules.now.matrix c.get-low.result.now.left c.get-high.result.now.left
    c.lcm.result
    c.get-low.ensures.shape.left c.get-high.ensures.shape.left c.lcm.ensures.margins
    c.lcm.ensures.list
