use Rattle.mb_order.proofs.OrderLaws.{eliminates, is_order}
use Rattle.mb_order.proofs.laws.orders.Goals as goal

pub returns : goal.returns
returns c order d width = (is_order order d width, eliminates order d width)
