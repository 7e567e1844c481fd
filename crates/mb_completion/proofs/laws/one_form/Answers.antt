use Rattle.std.proofs.Common.{length}
use Rattle.mb_completion.proofs.NormalEnds.{one_form}
use Rattle.mb_completion.proofs.laws.one_form.Goals as goal
use Rattle.mb_order.proofs.OrderLaws.{is_order}
use Rattle.mb_order.proofs.WeightLaws.{symbols-fit}
use Rattle.mb_order.specs.Order.{monomial_cmp}
use Rattle.mb_order.specs.Weight.{symbols}

pub returns : goal.returns
returns c order d columns rules fit reduced a b p q s t w v e h k =
    (one_form d (symbols d columns) (monomial_cmp order d) rules (symbols-fit d columns fit)
    (is_order order d (length (symbols d columns))) reduced s t a b p q (w, v, e) h k).2
