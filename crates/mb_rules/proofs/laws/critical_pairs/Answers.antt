use Rattle.mb_rules.proofs.LocalConfluence.{critical_pairs}
use Rattle.mb_rules.proofs.laws.critical_pairs.Goals as goal

pub returns : goal.returns
returns c = critical_pairs
