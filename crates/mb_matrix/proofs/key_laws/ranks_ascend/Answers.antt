use Rattle.mb_matrix.proofs.Ranks.{ranks_ascend}
use Rattle.mb_matrix.proofs.key_laws.ranks_ascend.Goals as goal

pub returns : goal.returns
returns c matrix sound margins u v e f m n = ranks_ascend matrix sound margins u v e f m n
