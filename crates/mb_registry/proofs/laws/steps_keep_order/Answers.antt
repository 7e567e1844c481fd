use Rattle.mb_registry.proofs.OrderlySteps.{empty_orderly, steps_orderly}
use Rattle.mb_registry.proofs.laws.steps_keep_order.Goals as goal

pub returns : goal.returns
returns c = record { from_none = empty_orderly; steps = steps_orderly }
