use Rattle.mb_weights.proofs.CellFactors.{weight_above}
use Rattle.mb_weights.proofs.laws.weights_are_positive.Goals as goal

pub returns : goal.returns
returns c measure w u cells = weight_above measure u w cells
