use Rattle.mb_kinds.proofs.PairsOfThree.{rasch_pairs}
use Rattle.mb_kinds.proofs.kind_laws.rasch_is_hierarchical.Goals as goal

pub returns : goal.returns
returns c = rasch_pairs
