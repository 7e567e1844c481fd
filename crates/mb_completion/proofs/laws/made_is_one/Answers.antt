use Rattle.mb_completion.proofs.OneMade.{made_one}
use Rattle.mb_completion.proofs.laws.made_is_one.Goals as goal

pub returns : goal.returns
returns c = made_one
