use Rattle.std.proofs.Common.{length}
use Rattle.mb_completion.proofs.Reducing.{reduction}
use Rattle.mb_completion.proofs.laws.reduction.Goals as goal
use Rattle.mb_order.proofs.OrderLaws.{is_order}
use Rattle.mb_order.proofs.WeightLaws.{symbols-fit}
use Rattle.mb_order.specs.Order.{monomial_cmp}
use Rattle.mb_order.specs.Weight.{symbols}

pub returns : goal.returns
returns c order d columns rules kept fit valid reach h =
    let all = symbols d columns in
    reduction d all (monomial_cmp order d) (symbols-fit d columns fit)
    (is_order order d (length all)) rules valid reach kept h
