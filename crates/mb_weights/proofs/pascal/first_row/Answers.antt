use Rattle.mb_weights.proofs.SmallWays.{ways-first}
use Rattle.mb_weights.proofs.pascal.first_row.Goals as goal

pub returns : goal.returns
returns c = ways-first
