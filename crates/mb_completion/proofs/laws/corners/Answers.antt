use Rattle.std.proofs.Common.{length}
use Rattle.mb_completion.proofs.MinimalLefts.{corner_minimal, minimal_corner}
use Rattle.mb_completion.proofs.laws.corners.Goals as goal
use Rattle.mb_order.proofs.OrderLaws.{is_order}
use Rattle.mb_order.proofs.WeightLaws.{symbols-fit}
use Rattle.mb_order.specs.Order.{monomial_cmp}
use Rattle.mb_order.specs.Weight.{symbols}

pub returns : goal.returns
returns c order d columns rules fit valid reach l =
    let all = symbols d columns in (
      corner_minimal d all (monomial_cmp order d) (symbols-fit d columns fit)
          (is_order order d (length all)) rules valid reach l,
      minimal_corner d all (monomial_cmp order d) (symbols-fit d columns fit)
          (is_order order d (length all)) rules valid reach l,
    )
