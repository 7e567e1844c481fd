use Rattle.mb_rings.proofs.Reaching.{reaches_joined}
use Rattle.mb_rings.proofs.laws.reached_is_joined.Goals as goal

pub returns : goal.returns
returns c = reaches_joined
