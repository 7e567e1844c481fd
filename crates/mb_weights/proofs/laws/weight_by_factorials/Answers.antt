use Rattle.mb_weights.proofs.ByFactorials.{by_factorials}
use Rattle.mb_weights.proofs.laws.weight_by_factorials.Goals as goal

pub returns : goal.returns
returns c measure w u cells = by_factorials measure u w cells
