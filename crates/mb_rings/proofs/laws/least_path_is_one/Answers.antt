use Rattle.mb_rings.proofs.PathOrder.{least-one}
use Rattle.mb_rings.proofs.laws.least_path_is_one.Goals as goal

pub returns : goal.returns
returns c moves u v p q h k = least-one moves u v p q h k
