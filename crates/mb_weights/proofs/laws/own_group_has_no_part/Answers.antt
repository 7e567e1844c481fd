use Rattle.mb_weights.proofs.CellFactors.{own_group}
use Rattle.mb_weights.proofs.laws.own_group_has_no_part.Goals as goal

pub returns : goal.returns
returns c measure w u cells g x other = own_group measure u w cells g x other
