use Rattle.mb_order.proofs.WeightLaws.{weight}
use Rattle.mb_order.proofs.laws.weight_by_parts.Goals as goal

pub returns : goal.returns
returns c = weight
