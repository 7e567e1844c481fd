use Rattle.mb_rules.proofs.WithoutMargins.{elimination}
use Rattle.mb_rules.proofs.laws.elimination.Goals as goal

pub returns : goal.returns
returns c = elimination
