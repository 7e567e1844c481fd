use Rattle.mb_completion.proofs.ValidMade.{made_valid}
use Rattle.mb_completion.proofs.laws.made_is_valid.Goals as goal

pub returns : goal.returns
returns c = made_valid
