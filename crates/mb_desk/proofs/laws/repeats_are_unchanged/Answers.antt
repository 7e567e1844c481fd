use Rattle.mb_desk.proofs.RepeatedPlans.{repeats_are_unchanged}
use Rattle.mb_desk.proofs.laws.repeats_are_unchanged.Goals as goal

pub returns : goal.returns
returns c = repeats_are_unchanged
