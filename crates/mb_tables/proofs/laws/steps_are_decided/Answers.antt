use Rattle.mb_tables.proofs.StepTests.{steps_decided}
use Rattle.mb_tables.proofs.laws.steps_are_decided.Goals as goal

pub returns : goal.returns
returns c = steps_decided
