use Rattle.mb_weights.proofs.GroupTotals.{totals-none}
use Rattle.mb_weights.proofs.totals.no_totals.Goals as goal

pub returns : goal.returns
returns c = totals-none
