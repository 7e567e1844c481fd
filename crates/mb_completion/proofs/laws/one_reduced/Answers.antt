use Rattle.std.proofs.Common.{length}
use Rattle.mb_completion.proofs.Reducing.{one_reduced}
use Rattle.mb_completion.proofs.laws.one_reduced.Goals as goal
use Rattle.mb_order.proofs.OrderLaws.{is_order}
use Rattle.mb_order.proofs.WeightLaws.{symbols-fit}
use Rattle.mb_order.specs.Order.{monomial_cmp}
use Rattle.mb_order.specs.Weight.{symbols}

pub returns : goal.returns
returns c order d columns some others fit h a g b =
    let all = symbols d columns in
    one_reduced d all (monomial_cmp order d) (symbols-fit d columns fit)
    (is_order order d (length all)) some others h a g b
