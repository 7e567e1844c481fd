use Rattle.std.proofs.Common.{length, ◌+◌}
use Rattle.mb_order.proofs.OrderLaws.{eliminates, is_order}
use Rattle.mb_order.specs.Order.{monomial_cmp}
use Rattle.mb_rules.proofs.ByMoves.{joined}
use Rattle.mb_rules.proofs.laws.joining.Goals as goal

pub returns : goal.returns
returns c order d columns rules moves fit valid pairs starts paths =
    joined d columns (monomial_cmp order d) rules moves valid paths fit
    (is_order order d (d + length columns)) (eliminates order d (d + length columns)) pairs starts
